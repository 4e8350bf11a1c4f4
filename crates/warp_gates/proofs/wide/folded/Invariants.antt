use Rattle.std.proofs.Common.{◌≡◌, take}
use Rattle.warp_gates.specs.Cells.{gate_output}
use Rattle.warp_gates.proofs.wide.folded.Given as goal

abbrev pub invariant-loop-input : goal.invariant-loop-input
invariant-loop-input l = l.output ≡ gate_output l.values l.kind (take l.input-index l.inputs)
