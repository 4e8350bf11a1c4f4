-- What may be chosen for a run beside its texts.
use Rattle.std.specs.Prelude.{ℕ, ◌≤◌, Option}
use Rattle.std.specs.Option.{ForSome}
use Rattle.warp_process.specs.Limits.{most_horizon}
use Rattle.warp_text.specs.declared.options.TheConstants.{MOST_BLOCKS, MOST_WORKERS, MOST_WINDOW}

-- the time at which the dump ends, the number of blocks where it is chosen, of workers, and of event times a turn
pub record AreWithin (until : ℕ) (blocks : Option ℕ) (workers window : ℕ) : Type 0 where
  pub until_within : until ≤ most_horizon
  pub blocks_within : ForSome blocks (λ n. (1 ≤ n) × (n ≤ MOST_BLOCKS))
  pub workers_within : (1 ≤ workers) × (workers ≤ MOST_WORKERS)
  pub window_within : (1 ≤ window) × (window ≤ MOST_WINDOW)
