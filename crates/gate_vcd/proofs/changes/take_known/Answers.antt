use Rattle.std.proofs.Common.{◌∙◌}
use Rattle.gate_vcd.specs.Inner.Items.{taken_in}
use Rattle.gate_vcd.specs.Inner.Known.{sources_in}
use Rattle.gate_vcd.proofs.Holding.{held-unused}
use Rattle.gate_vcd.proofs.changes.take_known.Goals as goal

pub take_digits-requires : goal.take_digits-requires
take_digits-requires c = record { linked = c.requires.linked; last = c.requires.last ∙ c.in-Some.is; held = c.requires.held }

pub returns-in-None-clause-ok : goal.returns-in-None-clause-ok
returns-in-None-clause-ok c es held =
    held-unused (sources_in c.args.codes.now) c.args.now c.args.code.now c.args.digits.now es (taken_in c.args.taken.now) (c.requires.last ∙ c.in-None.is) held
