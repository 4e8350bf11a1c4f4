use Rattle.std.proofs.Common.{ap, sym, ◌∙◌}
use Rattle.warp_stores.specs.Delays.{cut_since}
use Rattle.warp_stores.proofs.Delaying.{mixed_more}
use Rattle.warp_stores.proofs.delays.Delays.cut_from.Goals as goal

pub loop-queue-preserved : goal.loop-queue-preserved
loop-queue-preserved c =
    mixed_more (cut_since c.args.step) c.deref_mut-queue-items.result.now c.loop-queue.queue-items c.loop-queue.queue-index c.queue-item.result c.cut_from.new.self c.loop-queue-test.true c.queue-item.is c.loop-queue.invariant (c.cut_from.ensures ∙ ap (cut_since c.args.step) (sym c.queue-item.is))
