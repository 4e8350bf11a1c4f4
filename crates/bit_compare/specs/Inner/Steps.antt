-- Compared times, one after another.
use Rattle.std.specs.Prelude.{◌≡◌, ℕ, ◌+◌, ◌*◌, ◌≤◌}
use Rattle.bit_compare.specs.declared.times.Times.{Times}

-- the first step that isn't below a time
pub record IsStep (times : Times) (low t : ℕ) : Type 0 where
  pub above : low ≤ t
  pub steps : ℕ
  pub stepped : t ≡ times.start + steps * times.step
  pub first : (n : ℕ) → low ≤ times.start + n * times.step → t ≤ times.start + n * times.step
