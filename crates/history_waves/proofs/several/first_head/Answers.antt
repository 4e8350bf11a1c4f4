use Rattle.std.proofs.Common.{arith}
use Rattle.history_waves.proofs.Pending.{head_more, head_all}
use Rattle.history_waves.proofs.several.first_head.Goals as goal

pub loop-history-preserved : goal.loop-history-preserved
loop-history-preserved c =
    head_more c.args.untold.now c.loop-history.history-index c.history-item.result c.loop-history.first c.head.result c.loop-history-test.true c.history-item.is c.head.ensures.first c.loop-history.invariant
    c.sooner-first.result c.sooner-first.ensures

pub returns : goal.returns
returns c = head_all c.args.untold.now c.loop-history.history-index (omega (arith, c.loop-history-test.false)) c.loop-history.first c.loop-history.invariant
