-- Compared times, one after another.
use Rattle.std.specs.Prelude.{ℕ, ◌≤◌, ◌<◌, ◌^◌, Option, Some, None}
use Rattle.bit_compare.specs.declared.times.Times.{Times}
use Rattle.bit_compare.specs.Agreement.{IsCompared}

-- no time is past the machine's numbers, and steps go on
pub record AreSmall (times : Times) : Type 0 where
  pub to : times.to < 2 ^ 126
  pub start : times.start < 2 ^ 126
  pub step : times.step < 2 ^ 126
  pub moves : 0 < times.step

-- the first compared time that isn't below a time, if there is one
abbrev pub IsNext : Times → ℕ → Option ℕ → Type 0
IsNext times low None = (t : ℕ) → IsCompared times t → t < low
IsNext times low (Some next) = IsCompared times next × (low ≤ next) × ((t : ℕ) → IsCompared times t → low ≤ t → next ≤ t)
