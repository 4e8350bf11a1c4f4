-- When two bits agree, as functions of time.
use Rattle.std.specs.Prelude.{◌≡◌, ◌⊎◌, ℕ, ◌+◌, ◌*◌, ◌≤◌, ◌<◌, true, Option, Some, None}
use Rattle.gate_values.specs.declared.logic.Logic.{Logic}
use Rattle.gate_values.specs.declared.logic.Logic.TheVariants.{X}
use Rattle.bit_compare.specs.declared.difference.Difference.{Difference}
use Rattle.bit_compare.specs.declared.difference.Tolerance.{Tolerance}
use Rattle.bit_compare.specs.declared.times.Times.{Times}

-- two times are at most so far from each other
abbrev pub IsNear : ℕ → ℕ → ℕ → Type 0
IsNear within s t = (s ≤ t + within) × (t ≤ s + within)

-- the value is among those that a bit has near a time
abbrev pub IsAmong : ℕ → Logic → (ℕ → Logic) → ℕ → Type 0
IsAmong within v bit t = (s : ℕ) × IsNear within s t × (bit s ≡ v)

-- The value that was found is among those expected near the time; where any value serves for x, an x serves too.
abbrev pub IsExpected : Tolerance → Logic → (ℕ → Logic) → ℕ → Type 0
IsExpected how v expected t = IsAmong how.within v expected t ⊎ ((how.any_for_x ≡ true) × IsAmong how.within X expected t)

-- at a time the value of each bit is among those of the other near it
abbrev pub AreAlike : Tolerance → (ℕ → Logic) → (ℕ → Logic) → ℕ → Type 0
AreAlike how expected actual t = IsAmong how.within (expected t) actual t × IsExpected how (actual t) expected t

-- at a time two bits are alike, or x is expected, where any value serves for it
abbrev pub Agrees : Tolerance → (ℕ → Logic) → (ℕ → Logic) → ℕ → Type 0
Agrees how expected actual t = ((how.any_for_x ≡ true) × (expected t ≡ X)) ⊎ AreAlike how expected actual t

-- the times that are compared: of a start and those a step apart from it the ones from a first to a last one
pub record IsCompared (times : Times) (t : ℕ) : Type 0 where
  pub from : times.from ≤ t
  pub to : t ≤ times.to
  pub steps : ℕ
  pub stepped : t ≡ times.start + steps * times.step

-- the first compared time at which two bits don't agree, and their values there
pub record IsFirstDifference (how : Tolerance) (times : Times) (expected actual : ℕ → Logic) (d : Difference) : Type 0 where
  pub compared : IsCompared times d.time
  pub differs : ¬ Agrees how expected actual d.time
  pub first : (t : ℕ) → IsCompared times t → t < d.time → Agrees how expected actual t
  pub expected_there : d.expected ≡ expected d.time
  pub found_there : d.found ≡ actual d.time

-- what the comparison of two bits answers
abbrev pub IsFinding : Tolerance → Times → (ℕ → Logic) → (ℕ → Logic) → Option Difference → Type 0
IsFinding how times expected actual None = (t : ℕ) → IsCompared times t → Agrees how expected actual t
IsFinding how times expected actual (Some d) = IsFirstDifference how times expected actual d
