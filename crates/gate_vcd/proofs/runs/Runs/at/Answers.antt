use Rattle.gate_vcd.proofs.RunLaws.{at-last, at-none}
use Rattle.gate_vcd.proofs.runs.Runs.at.Goals as goal

pub returns-in-Some : goal.returns-in-Some
returns-in-Some c =
    let among = c.range.ensures.in_range c.new.ensures.exhausted in
    let here = among.3 _ _ c.in-Some.ensures.steps in
    let last = among.4 _ _ c.in-Some.ensures.steps in
    at-last c.args.self.now.starts c.args.base c.args.bit c.in-Some.field-0-0.now c.in-Some.kept.now (rw (c.new.ensures.start, c.new.ensures.end) at here) (rw (c.new.ensures.start, c.new.ensures.end) at last)

pub returns-in-None : goal.returns-in-None
returns-in-None c =
    let none = (c.range.ensures.in_range c.new.ensures.exhausted).5 c.in-None.ensures.steps.0 in
    at-none c.args.self.now.starts c.args.base c.args.bit (rw (c.new.ensures.start, c.new.ensures.end) at none)
