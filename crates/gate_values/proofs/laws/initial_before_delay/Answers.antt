use Rattle.gate_values.proofs.Beginning.{initial_before}
use Rattle.gate_values.proofs.laws.initial_before_delay.Goals as goal

pub returns : goal.returns
returns c source given n t w h = initial_before source given n t w h
