use Rattle.std.proofs.Common.{◌+◌, ◌≤◌, length}
use Rattle.gate_netlist.specs.Passes.{lines_after}
use Rattle.gate_netlist.proofs.Accepting.{text_left}
use Rattle.only_nets.specs.Names.{nets_named}
use Rattle.only_nets.specs.Inner.Marking.{IsReadSoFar}
use Rattle.only_nets.proofs.reading.read_names.Given as goal

abbrev pub invariant-loop-rest : goal.invariant-loop-rest
invariant-loop-rest l = record {
  so_far : IsReadSoFar l.circuit l.all.items l.line (lines_after l.rest) (nets_named l.circuit l.text);
  counted : l.line + text_left l.rest ≤ length l.text + 2;
}

abbrev pub decreases-loop-rest : goal.decreases-loop-rest
decreases-loop-rest l = text_left l.rest
