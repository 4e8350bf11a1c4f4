use Rattle.std.proofs.Common.{drop, arith}
use Rattle.gate_vcd.specs.Shown.Commands.{variables}
use Rattle.gate_vcd.proofs.VectorLaws.{put-step}
use Rattle.gate_vcd.proofs.vectors.Vectors.of.Goals as goal

pub loop-at-preserved : goal.loop-at-preserved
loop-at-preserved c = record {
  within = omega (arith, c.loop-at.invariant.within);
  kept = put-step c.put_variable.new.self c.args.all.now c.loop-at.at c.index-all-at.result c.loop-at-test.true c.loop-at.invariant.within c.index-all-at.is (c.in_ok-put_variable.ensures.ok (drop c.loop-at.at (variables c.args.all.now)) c.loop-at.invariant.kept);
}
