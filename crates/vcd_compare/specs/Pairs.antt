-- The pairs of bits that are compared.
use Rattle.std.specs.Prelude.{ℕ, Bool, List, [], ◌∷◌, ◌++◌, Option, Some, None, is_none, count_by}
use Rattle.gate_vcd.specs.Changes.{Source}
use Rattle.vcd_bits.specs.Names.{Bit, named_source}

-- a bit that is expected, by its name, and where the one that it is compared with takes its values from
pub record Pair : Type 0 where
  pub name : List ℕ
  pub expected : Source
  pub actual : Source

abbrev pub pair_if : Bit → Option Source → List Pair
pair_if b None = []
pair_if b (Some source) = record { name = b.name; expected = b.source; actual = source } ∷ []

-- the bits of the names that both have, in the order of those that are expected
abbrev pub pairs_of : List Bit → List Bit → List Pair
pairs_of [] actual = []
pairs_of (b ∷ bs) actual = pair_if b (named_source actual b.name) ++ pairs_of bs actual

-- a dump has no bit of the name of this one
abbrev pub lacks : List Bit → Bit → Bool
lacks others b = is_none (named_source others b.name)

-- how many of these bits others lack
abbrev pub alone : List Bit → List Bit → ℕ
alone bits others = count_by (lacks others) bits
