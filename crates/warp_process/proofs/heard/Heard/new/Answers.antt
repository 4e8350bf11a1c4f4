use Rattle.std.proofs.Common.{◌≡◌, ◌≢◌, ◌+◌, ◌==◌, ℕ, get_or, inl, inr, cond, ap, sym, ◌∙◌, subst, arith}
use Rattle.std.proofs.lemmas.Bool.{cases_eq, eq-eqb, ne_eqb}
use Rattle.warp_process.specs.declared.entry.Entry.{Entry}
use Rattle.warp_process.specs.Entries.{entry_in, IsQueue}
use Rattle.warp_process.specs.Inner.Rows.{entry_at}
use Rattle.warp_process.specs.Opening.{opening_queue}
use Rattle.warp_process.proofs.Opened.{made_view, made_held}
use Rattle.warp_process.proofs.heard.Heard.new.Goals as goal

pub loop-slot-init : goal.loop-slot-init
loop-slot-init c = record {
  rows = c.new-rows.ensures.rows;
  queues = λ i l. absurd (omega arith);
  opened = λ t i l. absurd (omega arith);
  rest = λ t i l. c.new-rows.ensures.none t i;
}

-- what a choice by places is
here : (i slot : ℕ) (x y : Entry) → i ≡ slot → cond (i == slot) x y ≡ x
here i slot x y e = ap (λ b. cond b x y) (eq-eqb i slot e)

there : (i slot : ℕ) (x y : Entry) → i ≢ slot → cond (i == slot) x y ≡ y
there i slot x y ne = ap (λ b. cond b x y) (ne_eqb i slot ne)

pub loop-slot-preserved : goal.loop-slot-preserved
loop-slot-preserved c =
    let p = c.args.part in
    let g = c.args.stimulus.now in
    let h = c.args.horizon in
    let slot = c.loop-slot.slot in
    let opened = c.in_ok-open_place.ensures.opened in
    record {
      rows = c.open_place.ensures.rows;
      queues = λ i l. elim (cases_eq i slot) [
        | inl same ↦ subst (λ j. IsQueue (opening_queue p g h (get_or p.nets j 0))) (sym same) c.in_ok-open_place.ensures.queue
        | inr other ↦ c.loop-slot.invariant.queues i (omega (arith, l, other))
      ];
      opened = λ t i l. elim (cases_eq i slot) [
        | inl same ↦ opened t i ∙ (here i slot (entry_in (opening_queue p g h (get_or p.nets slot 0)) t) (entry_at c.loop-slot.rows t i) same
            ∙ ap (λ j. entry_in (opening_queue p g h (get_or p.nets j 0)) t) (sym same))
        | inr other ↦ opened t i ∙ (there i slot (entry_in (opening_queue p g h (get_or p.nets slot 0)) t) (entry_at c.loop-slot.rows t i) other
            ∙ c.loop-slot.invariant.opened t i (omega (arith, l, other)))
      ];
      rest = λ t i l. opened t i ∙ (there i slot (entry_in (opening_queue p g h (get_or p.nets slot 0)) t) (entry_at c.loop-slot.rows t i) (let ne : i ≢ slot = omega (arith, l) in ne)
          ∙ c.loop-slot.invariant.rest t i (omega (arith, l)));
    }

pub invariant_of-result : goal.invariant_of-result
invariant_of-result c =
    let end = c.len-slot-end.ensures.count in
    made_held c.args.part c.law.ensures c.args.stimulus.now c.args.horizon c.loop-slot.rows (c.args.horizon + 1) c.loop-slot.invariant.rows
    (λ t i l. c.loop-slot.invariant.opened t i (omega (arith, l, end, c.loop-slot-test.false))) (λ i l. c.loop-slot.invariant.queues i (omega (arith, l, end, c.loop-slot-test.false)))
    (λ t i l. c.loop-slot.invariant.rest t i (omega (arith, l, end, c.loop-slot-test.false, c.loop-slot.auto.slot-end))) c.requires

pub returns : goal.returns
returns c =
    let end = c.len-slot-end.ensures.count in
    made_view c.args.part c.law.ensures c.args.stimulus.now c.args.horizon c.loop-slot.rows (c.args.horizon + 1) c.loop-slot.invariant.rows
    (λ t i l. c.loop-slot.invariant.opened t i (omega (arith, l, end, c.loop-slot-test.false))) (λ i l. c.loop-slot.invariant.queues i (omega (arith, l, end, c.loop-slot-test.false)))
    (λ t i l. c.loop-slot.invariant.rest t i (omega (arith, l, end, c.loop-slot-test.false, c.loop-slot.auto.slot-end)))
