use Rattle.byte_sinks.specs.Lots.{Passes}
use Rattle.vcd_dumps.specs.Dump.{first_lines}
use Rattle.vcd_dumps.proofs.dump.put_values.Given as goal

-- the lines so far
abbrev pub invariant-loop-net : goal.invariant-loop-net
invariant-loop-net g l = Passes (g.S.Sink.held l.fn.sink) (g.S.Sink.held l.sink) l.fn.lot (first_lines g.value l.net) l.lot
