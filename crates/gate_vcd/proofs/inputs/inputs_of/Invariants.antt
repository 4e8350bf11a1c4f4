use Rattle.gate_vcd.specs.Shown.Commands.{variables}
use Rattle.gate_vcd.proofs.InputLaws.{AreFound}
use Rattle.gate_vcd.proofs.inputs.inputs_of.Given as goal

-- the nets so far have their sources
abbrev pub invariant-loop-net : goal.invariant-loop-net
invariant-loop-net l = AreFound l.circuit (variables l.all) l.net l.sources.items
