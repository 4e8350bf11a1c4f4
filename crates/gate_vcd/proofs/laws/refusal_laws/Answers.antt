use Rattle.gate_vcd.proofs.Refusals.{reading_of-of_stimulus}
use Rattle.gate_vcd.proofs.laws.refusal_laws.Goals as goal

pub returns : goal.returns
returns c = reading_of-of_stimulus
