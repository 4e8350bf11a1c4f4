use Rattle.warp_stores.proofs.Seats.{IsSoughtUnder}
use Rattle.warp_stores.proofs.least.descend.Given as goal

abbrev pub invariant-loop-below : goal.invariant-loop-below
invariant-loop-below l = IsSoughtUnder l.time l.nodes l.fn.seat l.below

abbrev pub decreases-loop-below : goal.decreases-loop-below
decreases-loop-below l = l.below.width
