use Rattle.std.proofs.Common.{arith}
use Rattle.net_waves.specs.Merging.{lefts}
use Rattle.net_waves.proofs.MergeLaws.{leader-taken, leader-kept, length-lefts}
use Rattle.net_waves.proofs.merging.leader.Goals.{then-is_ahead, else-is_ahead}
use Rattle.net_waves.proofs.merging.leader.Goals as goal

pub loop-run-preserved : goal.loop-run-preserved
loop-run-preserved c = elim c.if-is_ahead.branch [
  | then-is_ahead w ↦ rw w.leader-is (leader-taken (lefts c.args.runs.now) c.args.over c.loop-run.run c.if-run-over.false c.is_ahead.result c.loop-run.leader w.if-is_ahead.true
      (omega (arith, length-lefts c.args.runs.now, c.loop-run-test.true)) c.loop-run.invariant c.is_ahead.ensures.some c.is_ahead.ensures.none)
  | else-is_ahead w ↦ rw w.leader-is (leader-kept (lefts c.args.runs.now) c.args.over c.loop-run.run c.if-run-over.false c.is_ahead.result c.loop-run.leader w.if-is_ahead.false
      c.loop-run.invariant c.is_ahead.ensures.some c.is_ahead.ensures.none)
]
