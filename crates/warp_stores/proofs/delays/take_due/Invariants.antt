use Rattle.std.proofs.Common.{◌-◌, length}
use Rattle.warp_stores.proofs.Delaying.{IsTakenTo}
use Rattle.warp_stores.proofs.delays.take_due.Given as goal

abbrev pub invariant-loop-place : goal.invariant-loop-place
invariant-loop-place l = IsTakenTo l.time l.initial.queues.items l.queues.items l.due l.initial.out.items l.out.items l.place

abbrev pub decreases-loop-place : goal.decreases-loop-place
decreases-loop-place l = length l.queues.items - l.place
