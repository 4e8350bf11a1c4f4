use Rattle.std.proofs.Common.{take}
use Rattle.warp_core.specs.Inner.Kept.{IsLeastOf}
use Rattle.warp_core.proofs.flight.least_of.Given as goal

abbrev pub invariant-loop-time : goal.invariant-loop-time
invariant-loop-time l = IsLeastOf (take l.time-index l.times) l.other l.least
