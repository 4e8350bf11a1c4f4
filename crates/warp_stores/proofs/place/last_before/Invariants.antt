use Rattle.warp_stores.proofs.Seeking.{AreSoughtBack}
use Rattle.warp_stores.proofs.place.last_before.Given as goal

abbrev pub invariant-loop-place : goal.invariant-loop-place
invariant-loop-place l = AreSoughtBack l.time l.stops l.from l.fn.to l.place

abbrev pub decreases-loop-place : goal.decreases-loop-place
decreases-loop-place l = l.place.stops
