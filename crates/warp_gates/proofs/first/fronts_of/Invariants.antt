use Rattle.warp_gates.specs.Inner.First.{AreFirst}
use Rattle.warp_gates.proofs.first.fronts_of.Given as goal

abbrev pub invariant-loop-place : goal.invariant-loop-place
invariant-loop-place l = AreFirst l.wiring l.queues l.contents l.place l.fronts.items
