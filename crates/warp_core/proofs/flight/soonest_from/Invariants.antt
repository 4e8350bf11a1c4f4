use Rattle.std.proofs.Common.{take}
use Rattle.warp_core.specs.Inner.Kept.{IsSoonest}
use Rattle.warp_core.proofs.flight.soonest_from.Given as goal

-- the messages before the place are counted
abbrev pub invariant-loop-place : goal.invariant-loop-place
invariant-loop-place l = IsSoonest (take l.place l.flight) l.end l.found
