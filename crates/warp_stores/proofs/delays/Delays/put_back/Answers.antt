use Rattle.std.proofs.Common.{ap, sym, ◌∙◌}
use Rattle.warp_stores.specs.Delays.{back_from}
use Rattle.warp_stores.proofs.Delaying.{mixed_more}
use Rattle.warp_stores.proofs.delays.Delays.put_back.Goals as goal

pub loop-queue-preserved : goal.loop-queue-preserved
loop-queue-preserved c =
    mixed_more (back_from c.args.time) c.deref_mut-queue-items.result.now c.loop-queue.queue-items c.loop-queue.queue-index c.queue-item.result c.put_back.new.self c.loop-queue-test.true c.queue-item.is c.loop-queue.invariant (c.put_back.ensures ∙ ap (back_from c.args.time) (sym c.queue-item.is))
