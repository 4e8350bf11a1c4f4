use Rattle.std.proofs.Common.{◌-◌}
use Rattle.warp_stores.proofs.Seeking.{AreSought}
use Rattle.warp_stores.proofs.place.first_since.Given as goal

abbrev pub invariant-loop-place : goal.invariant-loop-place
invariant-loop-place l = AreSought l.time l.stops l.fn.from l.to l.place

abbrev pub decreases-loop-place : goal.decreases-loop-place
decreases-loop-place l = l.to.stops - l.place.stops
