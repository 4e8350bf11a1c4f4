use Rattle.std.proofs.Common.{◌∙◌, sym, refl}
use Rattle.gate_vcd.proofs.InputLaws.{named-variables}
use Rattle.gate_vcd.proofs.inputs.cause_without.Goals as goal

pub returns-then-is_named : goal.returns-then-is_named
returns-then-is_named c = rw (sym (named-variables c.args.name.now c.args.all.now) ∙ sym c.is_named.ensures ∙ c.if-is_named.true) refl

pub returns-else-is_named : goal.returns-else-is_named
returns-else-is_named c = rw (sym (named-variables c.args.name.now c.args.all.now) ∙ sym c.is_named.ensures ∙ c.if-is_named.false) refl
