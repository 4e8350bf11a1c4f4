use Rattle.warp_stores.proofs.Delaying.{told_more}
use Rattle.warp_stores.proofs.delays.tell_due.Goals as goal

pub loop-place-preserved : goal.loop-place-preserved
loop-place-preserved c =
    told_more c.args.queues.now c.loop-place.due c.set.new.self c.args.due.now c.loop-place.place c.due.result c.index-queues-place.result c.requires c.loop-place-test.true c.index-queues-place.is c.loop-place.invariant c.due.ensures c.set.ensures
