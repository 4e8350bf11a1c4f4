use Rattle.std.proofs.Common.{List, Result, Ok, Err, IfOk, OnErr, refl, ap, sym, ◌∙◌, subst, is_some, arith}
use Rattle.warp_process.specs.Rows.{Standing, IsRow, entry_on}
use Rattle.warp_process.specs.Entries.{one_message}
use Rattle.warp_process.specs.Inner.Rows.{row_in}
use Rattle.warp_process.proofs.ByTime.{there, written_rows, written_entry, written_same, row_none}
use Rattle.warp_process.proofs.by_time.Rows.put_first.Goals as goal

pub put_first-requires : goal.put_first-requires
put_first-requires c = subst IsRow (sym (ap row_in c.in-Some.ensures.value)) (c.requires.rows.each c.args.time)

pub returns-in-Some-clause-rows : goal.returns-in-Some-clause-rows
returns-in-Some-clause-rows c =
    written_rows c.args.self.now (c.get_mut.follows.lender c.put_first.new.row) c.args.time c.in-Some.row.now c.put_first.new.row c.in-Some.ensures.value (c.get_mut.follows.holds c.put_first.new.row) c.requires.rows c.put_first.ensures.row

pub open-requires-in-None-clause-rows : goal.open-requires-in-None-clause-rows
open-requires-in-None-clause-rows c = rw c.get_mut.follows.holds-at-none c.requires.rows

on_err : {A B : Type 0} (P : Type 0) (r : Result A B) → P → OnErr r P
on_err P (Ok x) h = tt
on_err P (Err e) h = h

pub returns-in_err-open-in-None-clause-err : goal.returns-in_err-open-in-None-clause-err
returns-in_err-open-in-None-clause-err c = on_err _ c.from_residual-in_err-open-in-None.result (rw c.get_mut.follows.holds-at-none at c.in_err-open-in-None.ensures.err)

-- what holds of each answer
ok_more : {A B : Type 0} (P Q : A → Type 0) (r : Result A B) → ((x : A) → P x → Q x) → IfOk r P → IfOk r Q
ok_more P Q (Ok x) more h = more x h
ok_more P Q (Err e) more h = tt

err_more : {A B : Type 0} (P Q : Type 0) (r : Result A B) → (P → Q) → OnErr r P → OnErr r Q
err_more P Q (Ok x) more h = tt
err_more P Q (Err e) more h = more h

pub returns-in-Some-clause-put : goal.returns-in-Some-clause-put
returns-in-Some-clause-put c =
    ok_more _ _ c.put_first.result
    (λ put h yes_. (
      ap (λ (ss : List Standing). entry_on ss c.args.place) (there c.args.self.now (c.get_mut.follows.lender c.put_first.new.row) c.args.time c.in-Some.row.now c.put_first.new.row c.in-Some.ensures.value (c.get_mut.follows.holds c.put_first.new.row)) ∙ (h yes_).0,
      written_entry c.args.self.now (c.get_mut.follows.lender c.put_first.new.row) c.args.time c.in-Some.row.now c.put_first.new.row c.in-Some.ensures.value (c.get_mut.follows.holds c.put_first.new.row) c.args.place (one_message c.args.value) (h yes_).1,
    )) c.put_first.ensures.put

pub returns-in-Some-clause-left : goal.returns-in-Some-clause-left
returns-in-Some-clause-left c =
    ok_more _ _ c.put_first.result
    (λ put h none. written_same c.args.self.now (c.get_mut.follows.lender c.put_first.new.row) c.args.time c.in-Some.row.now c.put_first.new.row c.in-Some.ensures.value (c.get_mut.follows.holds c.put_first.new.row) (h none))
    c.put_first.ensures.left

pub returns-in-Some-clause-err : goal.returns-in-Some-clause-err
returns-in-Some-clause-err c =
    err_more _ _ c.put_first.result
    (written_same c.args.self.now (c.get_mut.follows.lender c.put_first.new.row) c.args.time c.in-Some.row.now c.put_first.new.row c.in-Some.ensures.value (c.get_mut.follows.holds c.put_first.new.row))
    c.put_first.ensures.err

pub returns-in_ok-open-in-None-clause-put : goal.returns-in_ok-open-in-None-clause-put
returns-in_ok-open-in-None-clause-put c = λ yes_. (
  ap (λ (ss : List Standing). entry_on ss c.args.place) (row_none c.args.self.now c.args.time (ap is_some (sym c.in-None.ensures.value))),
  rw c.one_message-in-None.ensures at (rw c.get_mut.follows.holds-at-none at c.in_ok-open-in-None.ensures.put),
)

pub returns-in-Some-clause-absent : goal.returns-in-Some-clause-absent
returns-in-Some-clause-absent c =
    err_more _ _ c.put_first.result
    (λ none. ap (λ (ss : List Standing). entry_on ss c.args.place) (there c.args.self.now (c.get_mut.follows.lender c.put_first.new.row) c.args.time c.in-Some.row.now c.put_first.new.row c.in-Some.ensures.value (c.get_mut.follows.holds c.put_first.new.row)) ∙ none)
    c.put_first.ensures.absent

pub returns-in_err-open-in-None-clause-absent : goal.returns-in_err-open-in-None-clause-absent
returns-in_err-open-in-None-clause-absent c =
    on_err _ c.from_residual-in_err-open-in-None.result (ap (λ (ss : List Standing). entry_on ss c.args.place) (row_none c.args.self.now c.args.time (ap is_some (sym c.in-None.ensures.value))))

pub returns-then-is_past-clause-put : goal.returns-then-is_past-clause-put
returns-then-is_past-clause-put c = λ yes_. (
  ap (λ (ss : List Standing). entry_on ss c.args.place) (row_none c.args.self.now c.args.time (c.if-is_past.ensures refl c.args.time (omega arith))),
  rw c.one_message.ensures at c.in_ok-open.ensures.put,
)
