use Rattle.std.proofs.Common.{ap, sym, ◌∙◌}
use Rattle.warp_process.specs.Entries.{effective_of}
use Rattle.warp_process.specs.Rows.{Standing}
use Rattle.warp_process.proofs.RowOrder.{entry_on-at, entry_on-none}
use Rattle.warp_process.proofs.RowEdits.{lacks-between}
use Rattle.warp_process.proofs.row.effective_on.Goals as goal

pub returns-in-Ok : goal.returns-in-Ok
returns-in-Ok c =
    let stands = c.in-Ok.ensures.stands in
    let here = c.index-row-at.result in
    c.effective.ensures ∙ ap effective_of (ap (λ (e : Standing). e.entry) c.index-row-at.is ∙ entry_on-at c.args.row.now c.in-Ok.at c.args.place here c.requires.in_order stands.0 (stands.1 here))

pub returns-in-Err : goal.returns-in-Err
returns-in-Err c = ap effective_of (sym (entry_on-none c.args.row.now c.args.place (lacks-between c.args.row.now c.args.place _ c.in-Err.ensures.belongs.1)))
