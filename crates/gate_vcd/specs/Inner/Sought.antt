-- What is kept of the variables for the inputs.
use Rattle.gate_vcd.specs.declared.inputs.Given.{Given}
use Rattle.gate_vcd.specs.Shown.Commands.{variables}
use Rattle.gate_vcd.specs.Inner.Scalars.{AreVectors}

-- the vectors are those of the variables
abbrev pub IsGiven : Given → Type 0
IsGiven g = AreVectors g.vectors (variables g.all.now)
