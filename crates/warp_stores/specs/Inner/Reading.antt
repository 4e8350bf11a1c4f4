-- Queues of which some are read.
use Rattle.std.specs.Prelude.{◌≡◌, ◌⊎◌, ℕ, List, length}
use Rattle.warp_stores.specs.Delays.{Delayed, queue_at, read_by}

-- some queues are read by a time, and the others stay
pub record AreSomeRead (time : ℕ) (old new : List Delayed) : Type 0 where
  pub same : length new ≡ length old
  pub each : (place : ℕ) → (queue_at new place ≡ queue_at old place) ⊎ (queue_at new place ≡ read_by time (queue_at old place))
