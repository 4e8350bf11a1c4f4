-- Logs that move from their places to their nets' lists.
use Rattle.std.specs.Prelude.{◌≡◌, ◌≢◌, ℕ, ◌<◌, IsTrue, List}
use Rattle.gate_values.specs.declared.logic.Change.{Change}
use Rattle.net_waves.specs.Waves.{wave_of}
use Rattle.warp_part.specs.Portion.{Portion, is_driven}
use Rattle.warp_process.specs.Inner.Step.{source_at, log_at}
use Rattle.warp_process.specs.Shown.Step.{net_at}

-- a gate or flip-flop of the block sets the net at a place
abbrev pub IsOwnAt : Portion → ℕ → Type 0
IsOwnAt p i = IsTrue (is_driven (source_at p i))

-- the own nets at so many places have their logs, and the other nets the lists that they had
pub record AreGiven (p : Portion) (logs : List (List Change)) (k : ℕ) (old new : List (List Change)) : Type 0 where
  pub own : (i : ℕ) → i < k → IsOwnAt p i → wave_of new (net_at p i) ≡ log_at logs i
  pub others : (n : ℕ) → ((i : ℕ) → i < k → IsOwnAt p i → net_at p i ≢ n) → wave_of new n ≡ wave_of old n
