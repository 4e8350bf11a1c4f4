use Rattle.std.proofs.Common.{◌≡◌}
use Rattle.warp_stores.specs.Delays.{cut_since}
use Rattle.warp_stores.proofs.Mixing.{mixed}
use Rattle.warp_stores.proofs.delays.Delays.cut_from.Given as goal

abbrev pub invariant-loop-queue : goal.invariant-loop-queue
invariant-loop-queue l = l.queue-items ≡ mixed (cut_since l.step) l.queue-index l.initial.queue-items l.initial.queue-items
