use Rattle.std.proofs.Common.{◌≡◌, take, map}
use Rattle.warp_stores.specs.Delays.{empty_after}
use Rattle.warp_stores.proofs.delays.empty_queues.Given as goal

abbrev pub invariant-loop-delay : goal.invariant-loop-delay
invariant-loop-delay l = l.queues.items ≡ map empty_after (take l.delay-index l.delays)
