use Rattle.gate_vcd.proofs.RunLaws.{keeps-more}
use Rattle.gate_vcd.proofs.runs.Runs.clear.Goals as goal

pub loop-start-preserved : goal.loop-start-preserved
loop-start-preserved c = keeps-more c.args.base c.args.low c.args.high c.in-Some.start c.args.self.now.starts c.loop-start.self.starts c.remove.new.self c.in-Some.ensures.within c.remove.ensures.updates.0 c.loop-start.invariant
