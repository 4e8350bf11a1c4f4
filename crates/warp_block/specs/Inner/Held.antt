-- What is true of the fields of a kernel.
use Rattle.std.specs.Prelude.{◌≡◌, ℕ, suc, ◌-◌, ◌<◌, ◌≤◌, false, List, length, get_or}
use Rattle.event_times.specs.Marks.{Played, AreTimes}
use Rattle.event_times.specs.declared.times.TheConstants.{SAVE_EVERY}
use Rattle.warp_engine.specs.Runs.{Run}
use Rattle.warp_process.specs.View.{View}
use Rattle.warp_process.specs.Played.{was_busy}
use Rattle.part_engine.specs.Runs.{IsEngineOf}

-- by the event times since the oldest saved state, at most one saved state is at a mark up to a floor
abbrev pub IsSparse : ℕ → List ℕ → Type 0
IsSparse floor times = SAVE_EVERY ≤ length times → floor ≤ get_or times (SAVE_EVERY - 1) 0

-- nothing happens from a time on and below a floor
abbrev pub IsQuietBelow : View → ℕ → Type 0
IsQuietBelow v from = (t : ℕ) → from ≤ t → t < v.floor → was_busy v t ≡ false

-- An engine has played what is received, from the oldest saved state on, and these are the event times since.
pub record IsAt (v : View) (run : Run) (played : Played) : Type 0 where
  pub engine : IsEngineOf v played.first run
  pub low : played.first ≤ v.floor
  pub within : run.book.mark ≤ suc v.horizon
  pub times : AreTimes (was_busy v) played.first run.book.mark played.times
  pub quiet : IsQuietBelow v run.book.mark
  pub sparse : IsSparse v.floor played.times

-- more is played, and no saved state is given up
pub record GoesOn (old new : Run) (before after : Played) : Type 0 where
  pub first : after.first ≡ before.first
  pub on : old.book.mark ≤ new.book.mark
