use Rattle.std.proofs.Common.{take}
use Rattle.gate_vcd.specs.Shown.Commands.{variables}
use Rattle.gate_vcd.specs.Inner.Scalars.{AreScalars}
use Rattle.gate_vcd.proofs.inputs.scalars_of.Given as goal

-- the scalars among the variables so far are kept
abbrev pub invariant-loop-variable : goal.invariant-loop-variable
invariant-loop-variable l = AreScalars l.circuit (variables (take l.variable-index l.all)) l.scalars.sources.items
