use Rattle.std.proofs.Common.{List, Result, Ok, Err, OnErr, subst, sym, ap, ◌∙◌}
use Rattle.std.specs.List.{insert}
use Rattle.warp_process.specs.Entries.{one_message}
use Rattle.warp_process.specs.Rows.{Standing, IsRow, entry_on}
use Rattle.warp_process.proofs.QueueOpening.{one_message-stands}
use Rattle.warp_process.proofs.RowOrder.{entry_on-none}
use Rattle.warp_process.proofs.RowEdits.{inserted-row, inserted-entries, lacks-between}
use Rattle.warp_process.proofs.row.put_first.Goals as goal

on_err : {A B : Type 0} (P : Type 0) (r : Result A B) → P → OnErr r P
on_err P (Ok x) h = tt
on_err P (Err e) h = h

pub returns-in_ok-insert-in-Err-clause-row : goal.returns-in_ok-insert-in-Err-clause-row
returns-in_ok-insert-in-Err-clause-row c =
    let belongs = rw c.as_slice.ensures at c.in-Err.ensures.belongs in
    subst IsRow (sym (c.in_ok-insert-in-Err.ensures.ok ∙ ap (λ (ss : List Standing). insert ss c.in-Err.at c.one_message.result) c.widen.ensures ∙ ap (insert c.args.row.now.items c.in-Err.at) c.one_message.ensures))
    (inserted-row c.args.row.now.items c.in-Err.at (record { place = c.args.place; entry = one_message c.args.value }) c.requires belongs.0 belongs.1 (one_message-stands c.args.value))

pub returns-in_ok-insert-in-Err-clause-put : goal.returns-in_ok-insert-in-Err-clause-put
returns-in_ok-insert-in-Err-clause-put c = λ yes_.
    (let belongs = rw c.as_slice.ensures at c.in-Err.ensures.belongs in
    let lacks = lacks-between c.args.row.now.items c.args.place c.in-Err.at belongs.1 in (
      entry_on-none c.args.row.now.items c.args.place lacks,
      λ i. ap (λ (ss : List Standing). entry_on ss i) (c.in_ok-insert-in-Err.ensures.ok ∙ ap (λ (ts : List Standing). insert ts c.in-Err.at c.one_message.result) c.widen.ensures ∙ ap (insert c.args.row.now.items c.in-Err.at) c.one_message.ensures)
          ∙ inserted-entries c.args.row.now.items c.in-Err.at (record { place = c.args.place; entry = one_message c.args.value }) lacks i,
    ))

pub returns-in_err-insert-in-Err-clause-absent : goal.returns-in_err-insert-in-Err-clause-absent
returns-in_err-insert-in-Err-clause-absent c =
    let belongs = rw c.as_slice.ensures at c.in-Err.ensures.belongs in
    on_err _ c.from_residual.result (entry_on-none c.args.row.now.items c.args.place (lacks-between c.args.row.now.items c.args.place c.in-Err.at belongs.1))
