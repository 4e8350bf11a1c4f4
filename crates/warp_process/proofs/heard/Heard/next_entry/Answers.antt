use Rattle.std.proofs.Common.{◌≡◌, ◌≢◌, refl, ap, subst, sym, ◌∙◌, arith}
use Rattle.std.proofs.lemmas.Bool.{true≢false}
use Rattle.warp_process.specs.declared.entry.Entry.{Entry}
use Rattle.warp_process.specs.Entries.{no_messages}
use Rattle.warp_process.specs.Rows.{IsRow, entry_on}
use Rattle.warp_process.specs.View.{View}
use Rattle.warp_process.proofs.Hearing.{seen_received, seen_rows, place_of_net}
use Rattle.warp_process.proofs.Scanning.{over, none_left, past, found, more}
use Rattle.warp_process.proofs.Finding.{IsOf, of_listed, of_within, of_row, row_of}
use Rattle.warp_process.proofs.heard.Heard.next_entry.Goals as goal

pub returns-in_err-time : goal.returns-in_err-time
returns-in_err-time c =
    let is = seen_received c.self.inside c.args.self.now c.self.view_is c.self.invariant in
    let rowed = seen_rows c.self.inside c.args.self.now c.self.view_is c.self.invariant in
    let at = place_of_net c.self.inside c.args.self.now c.args.net c.in_ok-slot.slot c.self.view_is (sym c.slot.ensures ∙ c.in_ok-slot.was) in
    rw (c.from_residual-in_err-time.ensures, ← at.1) (none_left c.self.inside.rows c.args.from (IsOf c.args.self.now c.self.inside.rows is rowed c.in_ok-slot.slot at.0 (λ (e : Entry). e ≢ no_messages) (λ h. h refl)) (of_listed c.args.self.now c.self.inside.rows is rowed c.in_ok-slot.slot at.0 (λ (e : Entry). e ≢ no_messages) (λ h. h refl)) c.loop-start.start c.loop-start.invariant.later (rw (← at.1) at c.loop-start.invariant.passed) c.in_err-time.ensures.least)

pub returns-then-time-self : goal.returns-then-time-self
returns-then-time-self c =
    let is = seen_received c.self.inside c.args.self.now c.self.view_is c.self.invariant in
    let rowed = seen_rows c.self.inside c.args.self.now c.self.view_is c.self.invariant in
    let at = place_of_net c.self.inside c.args.self.now c.args.net c.in_ok-slot.slot c.self.view_is (sym c.slot.ensures ∙ c.in_ok-slot.was) in
    rw (← at.1) (past c.self.inside.rows c.args.from (IsOf c.args.self.now c.self.inside.rows is rowed c.in_ok-slot.slot at.0 (λ (e : Entry). e ≢ no_messages) (λ h. h refl)) (of_listed c.args.self.now c.self.inside.rows is rowed c.in_ok-slot.slot at.0 (λ (e : Entry). e ≢ no_messages) (λ h. h refl)) c.loop-start.start c.loop-start.invariant.later (rw (← at.1) at c.loop-start.invariant.passed) c.in_ok-time.time c.in_ok-time.ensures.least
    (λ t m. of_within c.args.self.now c.self.inside.rows is rowed c.in_ok-slot.slot at.0 (λ (e : Entry). e ≢ no_messages) (λ h. h refl) t (let same : c.self.inside.horizon ≡ c.args.self.now.horizon = ap (λ (w : View). w.horizon) c.self.view_is in omega (arith, same, c.if-time-self.true, m))))

pub entry_on-requires : goal.entry_on-requires
entry_on-requires c = subst IsRow (sym c.in_ok-time.ensures.row) (c.self.invariant.rows.each c.in_ok-time.time)

pub returns-then-not-is_empty : goal.returns-then-not-is_empty
returns-then-not-is_empty c =
    let is = seen_received c.self.inside c.args.self.now c.self.view_is c.self.invariant in
    let rowed = seen_rows c.self.inside c.args.self.now c.self.view_is c.self.invariant in
    let at = place_of_net c.self.inside c.args.self.now c.args.net c.in_ok-slot.slot c.self.view_is (sym c.slot.ensures ∙ c.in_ok-slot.was) in
    let some : entry_on c.in_ok-time.row.now c.in_ok-slot.slot ≢ no_messages = λ none. true≢false (sym (c.is_empty.ensures.1 (c.entry_on.ensures ∙ none)) ∙ c.if-not-is_empty.true) in
    rw (← at.1) (found c.self.inside.rows c.args.from (IsOf c.args.self.now c.self.inside.rows is rowed c.in_ok-slot.slot at.0 (λ (e : Entry). e ≢ no_messages) (λ h. h refl)) (of_listed c.args.self.now c.self.inside.rows is rowed c.in_ok-slot.slot at.0 (λ (e : Entry). e ≢ no_messages) (λ h. h refl)) c.loop-start.start c.loop-start.invariant.later (rw (← at.1) at c.loop-start.invariant.passed) c.in_ok-time.time c.in_ok-time.ensures.least
    (of_row c.args.self.now c.self.inside.rows is rowed c.in_ok-slot.slot at.0 (λ (e : Entry). e ≢ no_messages) (λ h. h refl) c.in_ok-time.time c.in_ok-time.row.now c.in_ok-time.ensures.row some))

pub loop-start-preserved : goal.loop-start-preserved
loop-start-preserved c =
    let is = seen_received c.self.inside c.args.self.now c.self.view_is c.self.invariant in
    let rowed = seen_rows c.self.inside c.args.self.now c.self.view_is c.self.invariant in
    let at = place_of_net c.self.inside c.args.self.now c.args.net c.in_ok-slot.slot c.self.view_is (sym c.slot.ensures ∙ c.in_ok-slot.was) in
    let none : entry_on c.in_ok-time.row.now c.in_ok-slot.slot ≡ no_messages = sym c.entry_on.ensures ∙ c.is_empty.ensures.0 c.if-not-is_empty.false in
    rw (← at.1) (record {
      later = (let from = c.in_ok-time.ensures.least.0.0 in omega (arith, from, c.loop-start.invariant.later));
      passed = more c.self.inside.rows c.args.from (IsOf c.args.self.now c.self.inside.rows is rowed c.in_ok-slot.slot at.0 (λ (e : Entry). e ≢ no_messages) (λ h. h refl)) (of_listed c.args.self.now c.self.inside.rows is rowed c.in_ok-slot.slot at.0 (λ (e : Entry). e ≢ no_messages) (λ h. h refl)) c.loop-start.start c.loop-start.invariant.later (rw (← at.1) at c.loop-start.invariant.passed) c.in_ok-time.time c.in_ok-time.ensures.least
          (λ h. row_of c.args.self.now c.self.inside.rows is rowed c.in_ok-slot.slot at.0 (λ (e : Entry). e ≢ no_messages) (λ h. h refl) c.in_ok-time.time c.in_ok-time.row.now c.in_ok-time.ensures.row h none);
    })

pub returns : goal.returns
returns c =
    let is = seen_received c.self.inside c.args.self.now c.self.view_is c.self.invariant in
    let rowed = seen_rows c.self.inside c.args.self.now c.self.view_is c.self.invariant in
    let at = place_of_net c.self.inside c.args.self.now c.args.net c.in_ok-slot.slot c.self.view_is (sym c.slot.ensures ∙ c.in_ok-slot.was) in
    rw (← at.1) (over c.self.inside.rows c.args.from (IsOf c.args.self.now c.self.inside.rows is rowed c.in_ok-slot.slot at.0 (λ (e : Entry). e ≢ no_messages) (λ h. h refl)) (of_listed c.args.self.now c.self.inside.rows is rowed c.in_ok-slot.slot at.0 (λ (e : Entry). e ≢ no_messages) (λ h. h refl)) c.loop-start.start c.loop-start.invariant.later (rw (← at.1) at c.loop-start.invariant.passed)
    (λ t m. of_within c.args.self.now c.self.inside.rows is rowed c.in_ok-slot.slot at.0 (λ (e : Entry). e ≢ no_messages) (λ h. h refl) t (let same : c.self.inside.horizon ≡ c.args.self.now.horizon = ap (λ (w : View). w.horizon) c.self.view_is in omega (arith, same, c.loop-start-test.false, m))))
