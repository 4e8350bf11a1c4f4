use Rattle.std.proofs.lemmas.Result.{err_from_is_err_and}
use Rattle.gate_vcd.specs.Inner.Words.{bytes_of}
use Rattle.gate_vcd.specs.Shown.Words.{token_of}
use Rattle.gate_vcd.specs.Inner.Items.{taken_in}
use Rattle.gate_vcd.proofs.ItemLaws.{takes-stamp, takes-change, refuses-change}
use Rattle.gate_vcd.proofs.changes.take_item.Goals as goal

pub returns-in-Stamp : goal.returns-in-Stamp
returns-in-Stamp c es others kept =
    rw c.in-Stamp.is (takes-stamp c.args.codes.now c.args.now (token_of c.in-Stamp.word) others es (taken_in c.args.taken.now) c.next_stamp.result c.next_stamp.ensures kept)

pub returns-in_ok-take_change-in-Change : goal.returns-in_ok-take_change-in-Change
returns-in_ok-take_change-in-Change c es others kept =
    rw c.in-Change.is (takes-change c.args.codes.now c.args.now (token_of c.in-Change.first) c.in-Change.code.now (bytes_of c.in-Change.digits) others es (taken_in c.take_change.new.taken) (c.in_ok-take_change-in-Change.ensures es kept))

pub returns-in_err-take_change-in-Change : goal.returns-in_err-take_change-in-Change
returns-in_err-take_change-in-Change c es others kept =
    let p = err_from_is_err_and c.from_residual.result c.from_residual.ensures.1 in
    rw (p.1, p.2, c.in-Change.is) (refuses-change c.args.codes.now c.args.now (token_of c.in-Change.first) c.in-Change.code.now (bytes_of c.in-Change.digits) others es (taken_in c.take_change.new.taken) _ (c.in_err-take_change-in-Change.ensures es kept))
