-- Up to when something holds.
use Rattle.std.specs.Prelude.{◌≡◌, ℕ, ◌≤◌, ◌<◌, Option}
use Rattle.gate_values.specs.declared.logic.Logic.{Logic}
use Rattle.bit_compare.specs.declared.cursor.Cursor.{Cursor}
use Rattle.bit_compare.specs.declared.difference.Tolerance.{Tolerance}
use Rattle.bit_compare.specs.declared.times.Times.{Times}
use Rattle.bit_compare.specs.Agreement.{Agrees, IsCompared}
use Rattle.bit_compare.specs.Inner.Cursors.{IsAt}
use Rattle.bit_compare.specs.Shown.Steps.{IsNext}

-- From a time up to an end it holds; where the end isn't later than the time, it doesn't hold there.
pub record IsUntil (time : ℕ) (Law : ℕ → Type 0) (end : ℕ) : Type 0 where
  pub holds : (t : ℕ) → time ≤ t → t < end → Law t
  pub fails : end ≤ time → ¬ Law time

-- two cursors stand at one time, and take the same times for near
pub record AreTogether (how : Tolerance) (expected actual : Cursor) : Type 0 where
  pub expected_at : IsAt expected
  pub actual_at : IsAt actual
  pub expected_within : expected.within ≡ how.within
  pub actual_within : actual.within ≡ how.within
  pub time : actual.time ≡ expected.time

-- At all compared times below some time two bits agree, and this is the next one.
pub record Stands (how : Tolerance) (times : Times) (expected actual : ℕ → Logic) (seen : ℕ) (next : Option ℕ) : Type 0 where
  pub low : ℕ
  pub seen_before : seen ≤ low
  pub next_is : IsNext times low next
  pub agree : (t : ℕ) → IsCompared times t → t < low → Agrees how expected actual t
