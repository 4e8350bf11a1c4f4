use Rattle.std.proofs.Common.{◌≡◌, refl, ap, subst, sym, ◌∙◌, arith, IsSome, Option}
use Rattle.std.proofs.lemmas.Bool.{true≢false}
use Rattle.gate_values.specs.declared.logic.Logic.{Logic}
use Rattle.warp_process.specs.declared.entry.Entry.{Entry}
use Rattle.warp_process.specs.Entries.{effective_of, no_messages}
use Rattle.warp_process.specs.Rows.{IsRow, entry_on}
use Rattle.warp_process.specs.View.{View}
use Rattle.warp_process.proofs.Hearing.{seen_received, seen_rows}
use Rattle.warp_process.proofs.Scanning.{over, none_left, past, found, more}
use Rattle.warp_process.proofs.Finding.{IsOf, of_listed, of_within, of_row, row_of, empty_silent}
use Rattle.warp_process.proofs.heard.Heard.next_effective.Goals as goal

pub returns-in_err-time : goal.returns-in_err-time
returns-in_err-time c =
    let is = seen_received c.self.inside c.args.self.now c.self.view_is c.self.invariant in
    let rowed = seen_rows c.self.inside c.args.self.now c.self.view_is c.self.invariant in
    rw c.from_residual.ensures (none_left c.self.inside.rows c.args.from (IsOf c.args.self.now c.self.inside.rows is rowed c.args.slot c.requires (λ (e : Entry). IsSome (effective_of e)) (λ h. empty_silent no_messages refl h)) (of_listed c.args.self.now c.self.inside.rows is rowed c.args.slot c.requires (λ (e : Entry). IsSome (effective_of e)) (λ h. empty_silent no_messages refl h)) c.loop-start.start c.loop-start.invariant.later c.loop-start.invariant.passed c.in_err-time.ensures.least)

pub returns-then-time-self : goal.returns-then-time-self
returns-then-time-self c =
    let is = seen_received c.self.inside c.args.self.now c.self.view_is c.self.invariant in
    let rowed = seen_rows c.self.inside c.args.self.now c.self.view_is c.self.invariant in
    past c.self.inside.rows c.args.from (IsOf c.args.self.now c.self.inside.rows is rowed c.args.slot c.requires (λ (e : Entry). IsSome (effective_of e)) (λ h. empty_silent no_messages refl h)) (of_listed c.args.self.now c.self.inside.rows is rowed c.args.slot c.requires (λ (e : Entry). IsSome (effective_of e)) (λ h. empty_silent no_messages refl h)) c.loop-start.start c.loop-start.invariant.later c.loop-start.invariant.passed c.in_ok-time.time c.in_ok-time.ensures.least
    (λ t m. of_within c.args.self.now c.self.inside.rows is rowed c.args.slot c.requires (λ (e : Entry). IsSome (effective_of e)) (λ h. empty_silent no_messages refl h) t (let same : c.self.inside.horizon ≡ c.args.self.now.horizon = ap (λ (w : View). w.horizon) c.self.view_is in omega (arith, same, c.if-time-self.true, m)))

pub effective_on-requires : goal.effective_on-requires
effective_on-requires c = subst IsRow (sym c.in_ok-time.ensures.row) (c.self.invariant.rows.each c.in_ok-time.time)

pub returns-then-is_some : goal.returns-then-is_some
returns-then-is_some c =
    let is = seen_received c.self.inside c.args.self.now c.self.view_is c.self.invariant in
    let rowed = seen_rows c.self.inside c.args.self.now c.self.view_is c.self.invariant in
    found c.self.inside.rows c.args.from (IsOf c.args.self.now c.self.inside.rows is rowed c.args.slot c.requires (λ (e : Entry). IsSome (effective_of e)) (λ h. empty_silent no_messages refl h)) (of_listed c.args.self.now c.self.inside.rows is rowed c.args.slot c.requires (λ (e : Entry). IsSome (effective_of e)) (λ h. empty_silent no_messages refl h)) c.loop-start.start c.loop-start.invariant.later c.loop-start.invariant.passed c.in_ok-time.time c.in_ok-time.ensures.least
    (of_row c.args.self.now c.self.inside.rows is rowed c.args.slot c.requires (λ (e : Entry). IsSome (effective_of e)) (λ h. empty_silent no_messages refl h) c.in_ok-time.time c.in_ok-time.row.now c.in_ok-time.ensures.row (subst (λ (o : Option Logic). IsSome o) c.effective_on.ensures (sym c.is_some.ensures ∙ c.if-is_some.true)))

pub loop-start-preserved : goal.loop-start-preserved
loop-start-preserved c =
    let is = seen_received c.self.inside c.args.self.now c.self.view_is c.self.invariant in
    let rowed = seen_rows c.self.inside c.args.self.now c.self.view_is c.self.invariant in
    record {
      later = (let from = c.in_ok-time.ensures.least.0.0 in omega (arith, from, c.loop-start.invariant.later));
      passed = more c.self.inside.rows c.args.from (IsOf c.args.self.now c.self.inside.rows is rowed c.args.slot c.requires (λ (e : Entry). IsSome (effective_of e)) (λ h. empty_silent no_messages refl h)) (of_listed c.args.self.now c.self.inside.rows is rowed c.args.slot c.requires (λ (e : Entry). IsSome (effective_of e)) (λ h. empty_silent no_messages refl h)) c.loop-start.start c.loop-start.invariant.later c.loop-start.invariant.passed c.in_ok-time.time c.in_ok-time.ensures.least
          (λ h. (let none : IsSome (effective_of (entry_on c.in_ok-time.row.now c.args.slot)) → ⊥ = λ some. true≢false (sym (c.is_some.ensures ∙ subst (λ (o : Option Logic). IsSome o) (sym c.effective_on.ensures) some) ∙ c.if-is_some.false) in none (row_of c.args.self.now c.self.inside.rows is rowed c.args.slot c.requires (λ (e : Entry). IsSome (effective_of e)) (λ h. empty_silent no_messages refl h) c.in_ok-time.time c.in_ok-time.row.now c.in_ok-time.ensures.row h)));
    }

pub returns : goal.returns
returns c =
    let is = seen_received c.self.inside c.args.self.now c.self.view_is c.self.invariant in
    let rowed = seen_rows c.self.inside c.args.self.now c.self.view_is c.self.invariant in
    over c.self.inside.rows c.args.from (IsOf c.args.self.now c.self.inside.rows is rowed c.args.slot c.requires (λ (e : Entry). IsSome (effective_of e)) (λ h. empty_silent no_messages refl h)) (of_listed c.args.self.now c.self.inside.rows is rowed c.args.slot c.requires (λ (e : Entry). IsSome (effective_of e)) (λ h. empty_silent no_messages refl h)) c.loop-start.start c.loop-start.invariant.later c.loop-start.invariant.passed
    (λ t m. of_within c.args.self.now c.self.inside.rows is rowed c.args.slot c.requires (λ (e : Entry). IsSome (effective_of e)) (λ h. empty_silent no_messages refl h) t (let same : c.self.inside.horizon ≡ c.args.self.now.horizon = ap (λ (w : View). w.horizon) c.self.view_is in omega (arith, same, c.loop-start-test.false, m)))
