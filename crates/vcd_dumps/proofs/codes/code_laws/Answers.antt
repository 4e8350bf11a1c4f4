use Rattle.vcd_dumps.proofs.Coding.{code_of-short, code_of-long, code_of-differ}
use Rattle.vcd_dumps.proofs.codes.code_laws.Goals as goal

pub returns : goal.returns
returns c = record { short = code_of-short; long = code_of-long; differ = code_of-differ }
