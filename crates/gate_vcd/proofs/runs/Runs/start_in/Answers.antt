use Rattle.gate_vcd.proofs.RunLaws.{none-in}
use Rattle.gate_vcd.proofs.runs.Runs.start_in.Goals as goal

pub returns-in-None-clause-none : goal.returns-in-None-clause-none
returns-in-None-clause-none c bit h =
    let none = (c.range.ensures.in_range c.new.ensures.exhausted).5 c.in-None.ensures.steps.0 in
    none-in c.args.self.now.starts c.args.base c.args.low c.args.high bit (rw (c.new.ensures.start, c.new.ensures.end) at none) h
