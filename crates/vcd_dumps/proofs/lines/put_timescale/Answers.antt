use Rattle.byte_sinks.proofs.Passing.{passes_then}
use Rattle.vcd_dumps.proofs.lines.put_timescale.Goals as goal

pub returns : goal.returns
returns g c =
    rw (← c.name.ensures) (passes_then c.put_text.ensures (passes_then c.put_number.ensures (passes_then c.put_text-2.ensures (passes_then c.put_text-3.ensures c.put_text-4.ensures))))
