use Rattle.byte_sinks.proofs.Passing.{passes_then}
use Rattle.vcd_dumps.proofs.Walking.{stop_lines-later}
use Rattle.vcd_dumps.proofs.dump.put_stop.Goals as goal

pub returns : goal.returns
returns g c = rw (stop_lines-later c.args.last c.args.stop.time c.args.stop.net c.args.stop.value c.if-stop-eq0.false c.if-stop-last.false) (passes_then c.put_stamp.ensures c.put_value-2.ensures)
