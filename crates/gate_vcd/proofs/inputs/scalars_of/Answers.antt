use Rattle.gate_vcd.proofs.InputLaws.{scalars-next}
use Rattle.gate_vcd.proofs.inputs.scalars_of.Goals as goal

pub loop-variable-preserved : goal.loop-variable-preserved
loop-variable-preserved c =
    scalars-next c.args.circuit.now c.args.all.now c.loop-variable.variable-index c.variable-item.result c.loop-variable.scalars.sources.items c.note_variable.new.self.sources.items c.loop-variable-test.true c.variable-item.is c.note_variable.ensures.count c.note_variable.ensures.kept c.loop-variable.invariant
