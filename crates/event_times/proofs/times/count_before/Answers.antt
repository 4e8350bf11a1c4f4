use Rattle.std.proofs.Common.{◌-◌, arith}
use Rattle.std.proofs.lemmas.List.{get_or_default}
use Rattle.event_times.proofs.Cutting.{back_more, cut_is}
use Rattle.event_times.proofs.times.count_before.Goals as goal

pub loop-left-preserved : goal.loop-left-preserved
loop-left-preserved c =
    (omega (arith, c.loop-left.invariant.0), back_more c.args.time c.loop-left.left c.args.times.now.items c.index.result.now c.loop-left-test.true c.loop-left.invariant.0 (omega (arith, c.index.ensures, c.if-index-time.true)) c.loop-left.invariant.1)

pub returns-else-index-time-clause-before : goal.returns-else-index-time-clause-before
returns-else-index-time-clause-before c =
    cut_is c.loop-left.left c.args.time c.args.times.now.items c.requires c.loop-left.invariant.0 c.loop-left.invariant.1 (λ l.
    omega (arith, c.index.ensures, get_or_default c.args.times.now.items (c.loop-left.left - 1) c.index.result.now 0 (omega (arith, c.loop-left.invariant.0)), c.if-index-time.false))

pub returns-after-loop-left-clause-before : goal.returns-after-loop-left-clause-before
returns-after-loop-left-clause-before c =
    cut_is c.loop-left.left c.args.time c.args.times.now.items c.requires c.loop-left.invariant.0 c.loop-left.invariant.1 (λ l. absurd (omega (arith, c.loop-left-test.false)))
