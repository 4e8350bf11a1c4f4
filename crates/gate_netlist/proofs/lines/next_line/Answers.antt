use Rattle.std.proofs.Common.{sym, ◌∙◌}
use Rattle.gate_netlist.proofs.FirstLine.{line_without_end, line_with_end}
use Rattle.gate_netlist.proofs.lines.next_line.Goals as goal

pub returns-in-None-clause-lines : goal.returns-in-None-clause-lines
returns-in-None-clause-lines c = line_without_end c.args.text.now (sym c.first_feed.ensures ∙ c.in-None.is)

pub returns-in-Some-clause-lines : goal.returns-in-Some-clause-lines
returns-in-Some-clause-lines c = rw c.without_return-line.ensures (line_with_end c.args.text.now c.in-Some.end (sym c.first_feed.ensures ∙ c.in-Some.is))
