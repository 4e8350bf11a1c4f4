use Rattle.std.proofs.Common.{sym, length}
use Rattle.std.proofs.Math.Seq.{take-length}
use Rattle.gate_vcd.proofs.words.Words.passed.Goals as goal

pub returns-else-self-text : goal.returns-else-self-text
returns-else-self-text c = (length c.args.text.now, sym (take-length c.args.text.now))
