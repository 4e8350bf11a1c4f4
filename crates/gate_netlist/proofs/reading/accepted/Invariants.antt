use Rattle.std.proofs.Common.{◌≡◌, ◌+◌, ◌≤◌, [], length}
use Rattle.gate_netlist.specs.Lines.{lines_of}
use Rattle.gate_netlist.specs.Passes.{lines_after}
use Rattle.gate_netlist.specs.Inner.Keys.{names_in}
use Rattle.gate_netlist.specs.Inner.Stored.{statements_in}
use Rattle.gate_netlist.specs.Bench.{accepted, nets_defined}
use Rattle.gate_netlist.proofs.Accepting.{onto, text_left}
use Rattle.gate_netlist.proofs.reading.accepted.Given as goal

abbrev pub invariant-loop-rest : goal.invariant-loop-rest
invariant-loop-rest l = record {
  so_far : onto (statements_in l.statements) (accepted (names_in l.names) l.number (lines_after l.rest)) ≡ accepted [] 1 (lines_of l.text);
  named : names_in l.names ≡ nets_defined (statements_in l.statements);
  counted : l.number + text_left l.rest ≤ length l.text + 2;
}

abbrev pub decreases-loop-rest : goal.decreases-loop-rest
decreases-loop-rest l = text_left l.rest
