use Rattle.std.proofs.Common.{◌*◌, ◌≤◌, ◌^◌, length}
use Rattle.byte_sinks.specs.Lots.{Passes}
use Rattle.vcd_dumps.specs.Dump.{var_lines}
use Rattle.vcd_dumps.proofs.dump.put_vars.Given as goal

-- the lines so far
abbrev pub invariant-loop-net : goal.invariant-loop-net
invariant-loop-net g l = record {
  text : Passes (g.S.Sink.held l.fn.sink) (g.S.Sink.held l.sink) l.fn.lot (var_lines l.circuit.names l.net) l.lot;
  short : length (var_lines l.circuit.names l.net) ≤ 2 ^ 65 * l.net;
}
