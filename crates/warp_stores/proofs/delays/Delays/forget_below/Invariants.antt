use Rattle.warp_stores.proofs.Delaying.{AreForgottenTo}
use Rattle.warp_stores.proofs.delays.Delays.forget_below.Given as goal

abbrev pub invariant-loop-queue : goal.invariant-loop-queue
invariant-loop-queue l = AreForgottenTo l.time l.initial.queue-items l.queue-items l.queue-index
