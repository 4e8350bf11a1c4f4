use Rattle.std.proofs.Common.{◌≡◌, ◌≢◌, ◌==◌, ◌&&◌, ℕ, List, [], false, cond, map, take, get_or, slice_index, inl, inr, refl, subst, ap, sym, ◌∙◌, arith}
use Rattle.std.proofs.lemmas.Bool.{cond-false, cases_eq, eq-eqb, ne_eqb}
use Rattle.std.proofs.lemmas.List.{get_or_default}
use Rattle.gate_values.specs.declared.logic.Change.{Change}
use Rattle.gate_values.specs.declared.logic.Logic.TheVariants.{Zero}
use Rattle.gate_stimulus.specs.Given.{changes_of}
use Rattle.net_waves.specs.Inner.Lists.{IsRising}
use Rattle.gate_stimulus.proofs.Laid.{its_rising}
use Rattle.warp_process.specs.declared.entry.Entry.{Entry}
use Rattle.warp_process.specs.Entries.{Received, IsQueue, entry_in, no_messages, one_message}
use Rattle.warp_process.specs.Inner.Rows.{entry_at}
use Rattle.warp_process.specs.Opening.{message_of, opening_queue}
use Rattle.warp_part.specs.Portion.{is_input}
use Rattle.warp_part.proofs.Slots.{of_net-at}
use Rattle.warp_process.proofs.QueueOpening.{opening-part, opening-whole, opening-queue}
use Rattle.warp_process.proofs.Opened.{change_more, at_both, queue_of_input}
use Rattle.warp_process.proofs.heard.open_place.Goals as goal

-- a place that is empty has no entry
still : (i slot : ℕ) (x y : Entry) → (i ≡ slot → x ≡ y) → x ≡ cond (i == slot) y x
still i slot x y same = elim (cases_eq i slot) [
  | inl e ↦ rw (eq-eqb i slot e) (same e)
  | inr ne ↦ rw (ne_eqb i slot ne) refl
]

no_queue : (c : goal.Then-not-is_input) → opening_queue c.args.part.now c.args.stimulus.now c.args.horizon (slice_index c.args.part.now.nets c.args.slot) ≡ []
no_queue c =
    let p = c.args.part.now in
    cond-false (is_input p (slice_index p.nets c.args.slot)) _ [] (of_net-at p.nets p.inputs false c.args.slot c.law.ensures.ascending c.requires.slot ∙ (sym c.is_input.ensures ∙ c.if-not-is_input.true))

pub returns-then-not-is_input-clause-queue : goal.returns-then-not-is_input-clause-queue
returns-then-not-is_input-clause-queue c = subst IsQueue (sym (no_queue c)) (record { in_order = λ a b d h l. absurd (omega arith); kept = λ k d l. absurd (omega arith) })

pub returns-then-not-is_input-clause-opened : goal.returns-then-not-is_input-clause-opened
returns-then-not-is_input-clause-opened c t i =
    still i c.args.slot (entry_at c.args.rows.now t i) _ (λ same. ap (entry_at c.args.rows.now t) same ∙ (c.requires.none t ∙ ap (λ (q : List Received). entry_in q t) (sym (no_queue c))))

pub loop-change-init : goal.loop-change-init
loop-change-init c = record {
  rows = c.requires.rows;
  within = λ k d l. absurd (omega arith);
  opened = λ t i. still i c.args.slot (entry_at c.args.rows.now t i) no_messages (λ same. ap (entry_at c.args.rows.now t) same ∙ c.requires.none t);
}

pub loop-change-preserved : goal.loop-change-preserved
loop-change-preserved c =
    let cs = c.changes-change-items.result.now in
    let item : Change = get_or cs c.loop-change.change-index (record { time = 0; value = Zero }) in
    let is : item ≡ get_or cs c.loop-change.change-index item = get_or_default cs c.loop-change.change-index (record { time = 0; value = Zero }) item c.loop-change-test.true in
    let rising = subst IsRising (sym c.changes-change-items.ensures) (its_rising (changes_of c.args.stimulus.now c.net.result) (c.law-2.ensures c.net.result)) in
    record {
      rows = c.put.ensures.rows;
      within = λ k d l. elim (cases_eq k c.loop-change.change-index) [
        | inl here ↦
            (let same : (get_or cs k d).time ≡ item.time = ap (λ j. (get_or cs j d).time) here ∙ (ap (λ (x : Change). x.time) (get_or_default cs c.loop-change.change-index d (record { time = 0; value = Zero }) c.loop-change-test.true)) in
            omega (arith, same, c.if-change-horizon.false))
        | inr other ↦ (let ne : k ≢ c.loop-change.change-index = other in c.loop-change.invariant.within k d (omega (arith, l, ne)))
      ];
      opened = λ t i. c.in_ok-put.ensures.put t i
          ∙ (ap (λ (e : Entry). cond ((t == item.time) && (i == c.args.slot)) e (entry_at c.loop-change.rows t i)) c.one_message.ensures
          ∙ (ap (cond ((t == item.time) && (i == c.args.slot)) (one_message item.value)) (c.loop-change.invariant.opened t i)
          ∙ (at_both (t == item.time) (i == c.args.slot) (one_message item.value) (entry_in (map message_of (take c.loop-change.change-index cs)) t) (entry_at c.args.rows.now t i)
          ∙ ap (λ (e : Entry). cond (i == c.args.slot) e (entry_at c.args.rows.now t i))
          (sym (change_more cs rising c.loop-change.change-index item c.loop-change-test.true is t)))));
    }

pub returns-then-change-horizon-clause-queue : goal.returns-then-change-horizon-clause-queue
returns-then-change-horizon-clause-queue c =
    let cs = c.changes-change-items.result.now in
    let rising = subst IsRising (sym c.changes-change-items.ensures) (its_rising (changes_of c.args.stimulus.now c.net.result) (c.law-2.ensures c.net.result)) in
    let queue = queue_of_input c.args.part.now c.law.ensures c.args.stimulus.now c.args.horizon c.args.slot c.net.result cs c.requires.slot (sym c.is_input.ensures ∙ c.if-not-is_input.false) c.net.ensures c.changes-change-items.ensures in
    subst IsQueue (ap (map message_of) (opening-part cs c.args.horizon c.loop-change.change-index _ rising c.loop-change.invariant.within c.loop-change-test.true c.if-change-horizon.true) ∙ sym queue) (opening-queue cs c.loop-change.change-index rising)

pub returns-then-change-horizon-clause-opened : goal.returns-then-change-horizon-clause-opened
returns-then-change-horizon-clause-opened c t i =
    let cs = c.changes-change-items.result.now in
    let rising = subst IsRising (sym c.changes-change-items.ensures) (its_rising (changes_of c.args.stimulus.now c.net.result) (c.law-2.ensures c.net.result)) in
    let queue = queue_of_input c.args.part.now c.law.ensures c.args.stimulus.now c.args.horizon c.args.slot c.net.result cs c.requires.slot (sym c.is_input.ensures ∙ c.if-not-is_input.false) c.net.ensures c.changes-change-items.ensures in
    c.loop-change.invariant.opened t i ∙ ap (λ (es : List Received). cond (i == c.args.slot) (entry_in es t) (entry_at c.args.rows.now t i)) (ap (map message_of) (opening-part cs c.args.horizon c.loop-change.change-index _ rising c.loop-change.invariant.within c.loop-change-test.true c.if-change-horizon.true) ∙ sym queue)

pub returns-clause-queue : goal.returns-clause-queue
returns-clause-queue c =
    let cs = c.changes-change-items.result.now in
    let rising = subst IsRising (sym c.changes-change-items.ensures) (its_rising (changes_of c.args.stimulus.now c.net.result) (c.law-2.ensures c.net.result)) in
    let queue = queue_of_input c.args.part.now c.law.ensures c.args.stimulus.now c.args.horizon c.args.slot c.net.result cs c.requires.slot (sym c.is_input.ensures ∙ c.if-not-is_input.false) c.net.ensures c.changes-change-items.ensures in
    subst IsQueue (ap (map message_of) (opening-whole cs c.args.horizon c.loop-change.change-index c.loop-change.invariant.within c.loop-change-test.false) ∙ sym queue) (opening-queue cs c.loop-change.change-index rising)

pub returns-clause-opened : goal.returns-clause-opened
returns-clause-opened c t i =
    let cs = c.changes-change-items.result.now in
    let rising = subst IsRising (sym c.changes-change-items.ensures) (its_rising (changes_of c.args.stimulus.now c.net.result) (c.law-2.ensures c.net.result)) in
    let queue = queue_of_input c.args.part.now c.law.ensures c.args.stimulus.now c.args.horizon c.args.slot c.net.result cs c.requires.slot (sym c.is_input.ensures ∙ c.if-not-is_input.false) c.net.ensures c.changes-change-items.ensures in
    c.loop-change.invariant.opened t i ∙ ap (λ (es : List Received). cond (i == c.args.slot) (entry_in es t) (entry_at c.args.rows.now t i)) (ap (map message_of) (opening-whole cs c.args.horizon c.loop-change.change-index c.loop-change.invariant.within c.loop-change-test.false) ∙ sym queue)
