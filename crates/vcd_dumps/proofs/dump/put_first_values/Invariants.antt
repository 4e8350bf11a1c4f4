use Rattle.byte_sinks.specs.Lots.{Passes}
use Rattle.net_waves.specs.Waves.{wave_value}
use Rattle.vcd_dumps.specs.Dump.{first_lines}
use Rattle.vcd_dumps.proofs.dump.put_first_values.Given as goal

-- the lines so far
abbrev pub invariant-loop-net : goal.invariant-loop-net
invariant-loop-net g l = Passes (g.S.Sink.held l.fn.sink) (g.S.Sink.held l.sink) l.fn.lot (first_lines (wave_value l.waves) l.net) l.lot
