-- The bits that were found to differ.
use Rattle.std.specs.Prelude.{◌≡◌, ℕ, ◌<◌, List, [], ◌∷◌, ◌++◌, get_or, Option, Some, None}
use Rattle.std.specs.List.{AllByRecursion}
use Rattle.gate_stimulus.specs.Given.{Given, changes_of}
use Rattle.bit_compare.specs.declared.difference.Difference.{Difference}
use Rattle.bit_compare.specs.Agreement.{IsFinding}
use Rattle.bit_compare.specs.Bits.{value_through}
use Rattle.vcd_bits.specs.Names.{Bit}
use Rattle.vcd_compare.specs.declared.report.Differing.{Differing}
use Rattle.vcd_compare.specs.declared.sight.Sight.{Sight}
use Rattle.vcd_compare.specs.Comparison.{AreAscending, difference_of, differing_at}
use Rattle.vcd_compare.specs.Inner.Held.{name_at}
use Rattle.vcd_compare.specs.Inner.Sights.{actual_through, expected_through}

-- what is found of the pair of a number
abbrev pub IsFoundBy : Sight → Given → Given → ℕ → Option Difference → Type 0
IsFoundBy s e a pair = IsFinding s.how s.times (value_through (expected_through s) (changes_of e pair)) (value_through (actual_through s) (changes_of a pair))

-- where a pair differs it stands behind the others, with its name
abbrev pub IsNoted : List Differing → List Differing → ℕ → Option (List ℕ) → Option Difference → Type 0
IsNoted old new pair name None = new ≡ old
IsNoted old new pair name (Some difference) = (d : Differing) × (new ≡ old ++ d ∷ []) × (d.pair ≡ pair) × (d.difference ≡ difference) × ((x : List ℕ) → name ≡ Some x → d.name.items ≡ x)

-- of the pairs below a number those that differ, each with what is found of it and its name
pub record AreFoundUpTo (Law : ℕ → Option Difference → Type 0) (bits : List Bit) (numbers : List ℕ) (n : ℕ) (ds : List Differing) : Type 0 where
  pub each : (k : ℕ) → k < n → Law k (difference_of ds k)
  pub below : AllByRecursion (λ (d : Differing). d.pair < n) ds
  pub ascending : AreAscending ds
  pub named : (k : ℕ) (d : Differing) (x : List ℕ) → differing_at ds k ≡ Some d → name_at bits (get_or numbers k 0) ≡ Some x → d.name.items ≡ x
