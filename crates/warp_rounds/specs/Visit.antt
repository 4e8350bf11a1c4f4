-- What a visit of a site does: under the site's lock its block takes a turn. Which block the lock kept no clause can say.
use Rattle.std.specs.Prelude.{ℕ, ◌<◌, ◌≤◌, ◌⊎◌, List}
use Rattle.warp_process.specs.declared.message.Message.{Message}
use Rattle.warp_process.specs.declared.fault.BlockFault.{BlockFault}
use Rattle.warp_process.specs.View.{View, Process}
use Rattle.warp_process.specs.Lawful.{IsLawfulProcess}
use Rattle.warp_process.specs.Sends.{Sends}
use Rattle.warp_rounds.specs.Turn.{IsTurn, IsFaultyTurn, IsPending, IsAfterPending, IsLeastPending, put_behind}

-- a block with some messages is idle at a floor: nothing is left at it, nor before it
abbrev pub IsIdle : View → List Message → ℕ → Type 0
IsIdle v ms floor = (t : ℕ) → IsPending v ms t → floor < t

-- So many event times fit into a window at a floor: not more than it has; and if it has any, none only where the block is idle,
-- so that what is left at the floor is played.
abbrev pub Fits : View → List Message → ℕ → ℕ → ℕ → Type 0
Fits v ms floor window own = (own ≤ window) × (0 < window → (0 < own) ⊎ IsIdle v ms floor)

-- A lawful block took a turn at the floor, with some messages and by a window of its own that fits. It told the least time
-- that is left, and what it sent stands behind what stood there before.
pub record IsVisit (floor window : ℕ) (before out : List Message) (least : ℕ) : Type 0 where
  pub old : Process
  pub new : Process
  pub messages : List Message
  pub own : ℕ
  pub lawful : IsLawfulProcess old
  pub fits : Fits old.seen messages floor window own
  pub turn : IsTurn old new messages floor own
  pub sends : Sends old.seen new.seen (IsAfterPending old.seen messages) before out
  pub told : IsLeastPending new.seen (put_behind before out) least

-- A lawful block met a fault in such a turn.
pub record IsFaultyVisit (floor window : ℕ) (before out : List Message) (fault : BlockFault) : Type 0 where
  pub old : Process
  pub new : Process
  pub messages : List Message
  pub own : ℕ
  pub lawful : IsLawfulProcess old
  pub fits : Fits old.seen messages floor window own
  pub turn : IsFaultyTurn old new messages floor own fault
  pub sends : Sends old.seen new.seen (IsAfterPending old.seen messages) before out
