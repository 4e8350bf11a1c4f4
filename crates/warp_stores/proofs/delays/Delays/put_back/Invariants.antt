use Rattle.std.proofs.Common.{◌≡◌}
use Rattle.warp_stores.specs.Delays.{back_from}
use Rattle.warp_stores.proofs.Mixing.{mixed}
use Rattle.warp_stores.proofs.delays.Delays.put_back.Given as goal

abbrev pub invariant-loop-queue : goal.invariant-loop-queue
invariant-loop-queue l = l.queue-items ≡ mixed (back_from l.time) l.queue-index l.initial.queue-items l.initial.queue-items
