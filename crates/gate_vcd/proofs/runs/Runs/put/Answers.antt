use Rattle.gate_vcd.proofs.RunLaws.{run-put}
use Rattle.gate_vcd.proofs.runs.Runs.put.Goals as goal

pub returns-clause-ok : goal.returns-clause-ok
returns-clause-ok c other bit =
    run-put c.args.base c.args.low c.args.high c.args.kept c.at-after.result c.args.self.now.starts c.clear.new.self.starts c.insert.new.self c.insert-2.new.self c.requires.order c.at-after.ensures c.clear.ensures c.in_ok-insert.ensures.updates.0 c.in_ok-insert-2.ensures.updates.0 other bit
