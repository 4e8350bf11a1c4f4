use Rattle.warp_stores.proofs.Delaying.{tell_more}
use Rattle.warp_stores.proofs.delays.Delays.tell_since.Goals as goal

pub loop-queue-preserved : goal.loop-queue-preserved
loop-queue-preserved c =
    tell_more c.args.step c.args.last _ c.loop-queue.queue-index c.queue-item.result c.args.batch.now c.loop-queue.batch c.tell_since.new.batch c.loop-queue-test.true c.queue-item.is c.loop-queue.invariant
    c.in_ok-tell_since.ensures.ok
