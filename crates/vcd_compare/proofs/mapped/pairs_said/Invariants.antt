use Rattle.std.proofs.Common.{◌+◌, ◌≤◌, length}
use Rattle.gate_netlist.specs.Passes.{lines_after}
use Rattle.gate_netlist.proofs.Accepting.{text_left}
use Rattle.vcd_bits.specs.Shown.Tables.{bits_in}
use Rattle.vcd_compare.specs.Map.{pairs_said}
use Rattle.vcd_compare.specs.Inner.Mapping.{IsMappedSoFar}
use Rattle.vcd_compare.proofs.mapped.pairs_said.Given as goal

abbrev pub invariant-loop-rest : goal.invariant-loop-rest
invariant-loop-rest l = record {
  so_far : IsMappedSoFar (bits_in l.expected) (bits_in l.actual) l.mapped l.line (lines_after l.rest) (pairs_said (bits_in l.expected) (bits_in l.actual) l.text);
  counted : l.line + text_left l.rest ≤ length l.text + 2;
}

abbrev pub decreases-loop-rest : goal.decreases-loop-rest
decreases-loop-rest l = text_left l.rest
