-- The pairs that are kept.
use Rattle.std.specs.Prelude.{◌≡◌, ℕ, ◌++◌, ◌∷◌, ◌<◌, ◌^◌, List, [], length, map, slice_get, Option, Some, option_map}
use Rattle.gate_vcd.specs.declared.source.Source.{Source as HeldSource}
use Rattle.gate_vcd.specs.Shown.Known.{sources_by}
use Rattle.vcd_bits.specs.Names.{Bit}
use Rattle.vcd_compare.specs.declared.pairs.Pairs.{Pairs}
use Rattle.vcd_compare.specs.Pairs.{Pair}

-- the name of the bit of a number
abbrev pub name_at : List Bit → ℕ → Option (List ℕ)
name_at bits number = option_map (λ (b : Bit). b.name) (slice_get bits number)

-- what is kept are these pairs, whose numbers are those among all bits that are expected
pub record ArePairs (pairs : List Pair) (all : List Bit) (p : Pairs) : Type 0 where
  pub few : length p.numbers.items < 2 ^ 32
  pub names : map (name_at all) p.numbers.items ≡ map (λ (q : Pair). Some q.name) pairs
  pub expected : sources_by p.expected.items ≡ map (λ (q : Pair). Some q.expected) pairs
  pub actual : sources_by p.actual.items ≡ map (λ (q : Pair). Some q.actual) pairs

-- one pair more
pub record Takes (old new : Pairs) (number : ℕ) (one another : HeldSource) : Type 0 where
  pub few : length new.numbers.items < 2 ^ 32
  pub numbers : new.numbers.items ≡ old.numbers.items ++ number ∷ []
  pub expected : new.expected.items ≡ old.expected.items ++ Some one ∷ []
  pub actual : new.actual.items ≡ old.actual.items ++ Some another ∷ []
