-- What the workers of a run hand back.
use Rattle.std.specs.Prelude.{◌≡◌, ℕ, Result, Ok, Err}
use Rattle.std.specs.declared.thread.PromisedHandle.{PromisedHandle}
use Rattle.warp_rounds.specs.declared.fault.RunFault.{RunFault}
use Rattle.warp_rounds.specs.declared.crew.Term.{Term}
use Rattle.warp_rounds.specs.declared.runs.OfRun.{OfRun}
use Rattle.warp_rounds.specs.Inner.Work.{IsRoundsFault}

-- a worker ends as there are no more rounds, or by a fault of one of them
abbrev pub MayEnd : ℕ → ℕ → ℕ → ℕ → Result (Unit {0}) RunFault → Type 0
MayEnd blocks horizon workers window (Ok done) = Unit {0}
MayEnd blocks horizon workers window (Err fault) = IsRoundsFault blocks horizon workers window fault

-- a thread's handle, whose worker is of the run
abbrev pub IsOfRun : Term → PromisedHandle (Result (Unit {0}) RunFault) OfRun → Type 0
IsOfRun term handle = handle.promise.term ≡ term
