use Rattle.std.proofs.Common.{◌∙◌, codes, length, take, refl}
use Rattle.gate_vcd.proofs.InputLaws.{turned}
use Rattle.gate_vcd.proofs.ScopeLaws.{starts-append}
use Rattle.gate_vcd.proofs.inputs.is_indexed.Goals as goal

pub returns-in-Some : goal.returns-in-Some
returns-in-Some c = c.starts_with.ensures.value ∙ rw (starts-append c.args.name.now (codes "[") c.args.text.now, turned c.args.name.now (take (length c.args.name.now) c.args.text.now), c.in-Some.ensures.cases.0, c.in-Some.ensures.cases.1) refl

pub returns-in-None : goal.returns-in-None
returns-in-None c = rw (starts-append c.args.name.now (codes "[") c.args.text.now, turned c.args.name.now (take (length c.args.name.now) c.args.text.now), c.in-None.ensures.cases) refl
