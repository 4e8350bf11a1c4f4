use Rattle.gate_vcd.proofs.RunLaws.{kept-empty}
use Rattle.gate_vcd.proofs.runs.Runs.new.Goals as goal

pub returns : goal.returns
returns c base bit = kept-empty c.new.result base bit c.new.ensures.empty
