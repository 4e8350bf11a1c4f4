use Rattle.std.proofs.Common.{◌∙◌, ap, sym, is_some}
use Rattle.gate_vcd.specs.Inner.Items.{taken_in}
use Rattle.gate_vcd.specs.Inner.Known.{flat}
use Rattle.gate_vcd.specs.Shown.Words.{token_of}
use Rattle.gate_vcd.proofs.SettleLaws.{takes-digits}
use Rattle.gate_vcd.proofs.changes.take_change.Goals as goal

pub take_known-requires : goal.take_known-requires
take_known-requires c = record {
  linked = c.requires.linked;
  last = sym (c.requires.linked.ends c.args.code.now) ∙ ap flat (sym c.in-Some-Some.ensures);
  held = c.requires.held;
}

pub returns-in-Some-Some : goal.returns-in-Some-Some
returns-in-Some-Some c es held =
    rw c.in-Some-Some.is-1
    (takes-digits c.args.codes.now c.args.now (token_of c.args.first) c.args.code.now c.in-Some-Some.digits.now es (taken_in c.take_known.new.taken) c.take_known.result
    (ap is_some (sym c.in-Some-Some.ensures)) (c.take_known.ensures.ok es held) c.take_known.ensures.err)
