use Rattle.byte_sinks.proofs.Passing.{passes_then}
use Rattle.vcd_dumps.proofs.lines.put_scope.Goals as goal

pub returns : goal.returns
returns g c = passes_then c.put_text.ensures (passes_then c.put_text-2.ensures c.put_text-3.ensures)
