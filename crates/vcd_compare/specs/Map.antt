-- The pairs that a text says, two names a line.
use Rattle.std.specs.Prelude.{ℕ, ◌+◌, ◌==◌, Bool, false, if◌then◌else◌, List, [], ◌∷◌, ◌++◌, Option, Some, None, Result, Ok, Err, codes}
use Rattle.std.specs.List.{list_any}
use Rattle.std.specs.Str.{bytes_eq}
use Rattle.gate_netlist.specs.Bench.{◌>>=◌}
use Rattle.gate_netlist.specs.Lines.{lines_of}
use Rattle.gate_vcd.specs.Changes.{Source}
use Rattle.gate_vcd.specs.Tokens.{Token, tokens_of}
use Rattle.vcd_bits.specs.Names.{Bit, named_source}
use Rattle.vcd_compare.specs.declared.fault.MapCause.{MapCause}
use Rattle.vcd_compare.specs.declared.fault.MapCause.TheVariants.{BadLine, UnknownName, NamedTwice}
use Rattle.vcd_compare.specs.declared.fault.MapFault.{MapFault}
use Rattle.vcd_compare.specs.Pairs.{Pair, pairs_of}

-- ---- a line

-- the first byte is `#`
abbrev pub is_comment : List ℕ → Bool
is_comment [] = false
is_comment (b ∷ bs) = b == 35

-- the two names that words are; no words say nothing
abbrev pub names_in : List Token → Result (Option (List ℕ × List ℕ)) MapCause
names_in [] = Ok None
names_in (e ∷ a ∷ []) = Ok (Some (e.text, a.text))
names_in ts = Err BadLine

-- the two names of a line, if it says something: white space parts them
unfoldable pub names_of : List ℕ → Result (Option (List ℕ × List ℕ)) MapCause
names_of line = if is_comment line then Ok None else names_in (tokens_of line)

-- ---- a text

-- one of the pairs is that of the expected bit of this name
abbrev pub is_paired : List Pair → List ℕ → Bool
is_paired pairs name = list_any (λ p. bytes_eq name p.name) pairs

abbrev pub pair_of : List ℕ → Source → Source → Pair
pair_of name e a = record { name = name; expected = e; actual = a }

-- Pairs with a further one, of the expected bit of this name. Both bits have to be known, and each that is expected
-- stands in one pair.
abbrev pub with_known : List Pair → List ℕ → Option Source → Option Source → Result (List Pair) MapCause
with_known pairs name (Some e) (Some a) = if is_paired pairs name then Err NamedTwice else Ok (pairs ++ pair_of name e a ∷ [])
with_known pairs name _ _ = Err UnknownName

-- what two texts have is named and paired
module _ (expected actual : List Bit) where
  abbrev pub with_names : List Pair → Option (List ℕ × List ℕ) → Result (List Pair) MapCause
  with_names pairs None = Ok pairs
  with_names pairs (Some names) = with_known pairs names.0 (named_source expected names.0) (named_source actual names.1)

  -- pairs with that of a line more
  unfoldable pub with_line : List Pair → List ℕ → Result (List Pair) MapCause
  with_line pairs line = names_of line >>= with_names pairs

abbrev pub at_line : {X : Type 0} → ℕ → Result X MapCause → Result X MapFault
at_line line (Ok x) = Ok x
at_line line (Err cause) = Err (record { line = line; cause = cause })

-- These pairs and those that lines say, the first of the lines having this number. The first faulty one is refused.
unfoldable pub pairs_from : List Bit → List Bit → List Pair → ℕ → List (List ℕ) → Result (List Pair) MapFault
pairs_from expected actual pairs line [] = Ok pairs
pairs_from expected actual pairs line (l ∷ ls) = at_line line (with_line expected actual pairs l) >>= λ more. pairs_from expected actual more (line + 1) ls

-- the pairs that a text says, in its order
abbrev pub pairs_said : List Bit → List Bit → List ℕ → Result (List Pair) MapFault
pairs_said expected actual text = pairs_from expected actual [] 1 (lines_of text)

-- the pairs that are compared: those of one name, or those that a text says
abbrev pub pairs_by : Option (List ℕ) → List Bit → List Bit → Result (List Pair) MapFault
pairs_by None expected actual = Ok (pairs_of expected actual)
pairs_by (Some text) expected actual = pairs_said expected actual text

-- ---- the causes

abbrev pub map_cause_number : MapCause → ℕ
map_cause_number BadLine = 1
map_cause_number UnknownName = 2
map_cause_number NamedTwice = 3

abbrev pub map_cause_name : MapCause → List ℕ
map_cause_name BadLine = codes "BadLine"
map_cause_name UnknownName = codes "UnknownName"
map_cause_name NamedTwice = codes "NamedTwice"
