-- What a call makes of the event times: none comes before what the call was about.
use Rattle.std.proofs.Common.{◌≡◌, ◌≢◌, ℕ, zero, suc, pos, ◌+ℤ◌, ◌-◌, ◌<◌, ◌≤◌, ◌⊎◌, ◌&&◌, ◌==◌, true, false, inl, inr, cond, [], map, refl, ap, sym, ◌∙◌, subst, arith}
use Rattle.std.proofs.lemmas.Bool.{cases_Bool, cases_lt, ne_eqb, true≢false, and_left, and_right}
use Rattle.std.proofs.lemmas.Int.{ints}
use Rattle.gate_values.specs.declared.logic.Logic.{Logic}
use Rattle.gate_values.specs.declared.logic.Logic.TheVariants.{Zero, One, X, Z}
use Rattle.gate_values.specs.Changes.{same}
use Rattle.gate_values.proofs.Induction.{strong}
use Rattle.warp_process.specs.declared.entry.Entry.{Entry}
use Rattle.warp_process.specs.declared.message.Message.{Message}
use Rattle.warp_process.specs.Entries.{number_of, effective_of, weight_of}
use Rattle.warp_process.specs.View.{View, entry_of, effective_at, is_busy, IsEventTime}
use Rattle.warp_process.specs.Lawful.{IsLawful, lawful_log}
use Rattle.warp_process.specs.Receive.{IsTaken, does_tell}
use Rattle.warp_process.specs.Advance.{IsAdvanced, IsAfterEvent}
use Rattle.warp_process.specs.Inner.Advance.{IsQuiet}
use Rattle.warp_process.proofs.SavingBusy.{happens, busy_is, busy_is-next, happens_agree}
use Rattle.warp_process.proofs.SavingStep.{same_effective}

-- something happens from the mark on and below a time, or nothing does
busy_or_quiet : (v : View) (t : ℕ) → ((u : ℕ) × (v.mark ≤ u) × (u < t) × (is_busy v u ≡ true)) ⊎ IsQuiet v t
busy_or_quiet v zero = inr (λ u from below. absurd (omega (arith, below)))
busy_or_quiet v (suc t) = elim (busy_or_quiet v t) [
  | inl busy ↦ inl (busy.0, busy.1, (let l = busy.2 in omega (arith, l)), busy.3)
  | inr quiet ↦ (elim (cases_lt t v.mark) [
    | inl past ↦ inr (λ u from below. absurd (omega (arith, past, from, below)))
    | inr from ↦ (elim (cases_Bool (is_busy v t)) [
      | inl busy ↦ inl (t, from, (let l : t < suc t = omega arith in l), busy)
      | inr idle ↦ inr (λ u start below. elim (cases_lt u t) [
        | inl earlier ↦ quiet u start earlier
        | inr last ↦ (λ busy. (let e : u ≡ t = omega (arith, below, last) in true≢false (sym busy ∙ (ap (is_busy v) e ∙ idle))))
      ])
    ])
  ])
]

-- the first event time, up to one
first_event : (v : View) (t : ℕ) → IsEventTime v t → (u : ℕ) × IsEventTime v u × (u ≤ t) × IsQuiet v u
first_event v = strong (λ t. IsEventTime v t → (u : ℕ) × IsEventTime v u × (u ≤ t) × IsQuiet v u) (λ t earlier event. (elim (busy_or_quiet v t) [
  | inl busy ↦ (let until = event.1 in let below = busy.2 in
      let first = earlier busy.0 below (busy.1, omega (arith, until, below), busy.3) in
      (first.0, first.1, (let l = first.2 in omega (arith, l, below)), first.3))
  | inr quiet ↦ (t, event, (let l : t ≤ t = omega arith in l), quiet)
]))

-- the same time, from an event time of a block up to it
module _ (v w : View) (isv : IsLawful v) (isw : IsLawful w) (part : w.part ≡ v.part) (horizon : w.horizon ≡ v.horizon) where
  -- what happens in one block up to a time, and not before the mark of another, comes with an event time of the other
  -- where the effective values up to it agree
  event_until : (t : ℕ) → v.mark ≤ t → t ≤ v.horizon → ((n u : ℕ) → u ≤ t → effective_at v n u ≡ effective_at w n u) →
      happens w.part (effective_at w) w.horizon t ≡ true → (u : ℕ) × IsEventTime v u × (u ≤ t)
  event_until t from until agree busy = elim (busy_or_quiet v t) [
    | inl before ↦ (let below = before.2 in (before.0, (before.1, omega (arith, below, until), before.3), omega (arith, below)))
    | inr quiet ↦ (t, (from, until, busy_is-next v isv t from until quiet ∙ (happens_agree v w isv part horizon t agree ∙ busy)), (let l : t ≤ t = omega arith in l))
  ]

pub same_effective_of : (a b : Entry) → ((x : Logic) → number_of a x ≡ number_of b x) → effective_of a ≡ effective_of b
same_effective_of a b h =
    let zeros : a.zero ≡ b.zero = h Zero in
    let ones : a.one ≡ b.one = h One in
    let xs : a.x ≡ b.x = h X in
    let zs : a.z ≡ b.z = h Z in
    rw (zeros, ones, xs, zs) refl

-- a message changes no effective value at another time
pub taken_elsewhere : (old new : View) (m : Message) → IsTaken old new m → (n t : ℕ) → m.time ≢ t → effective_at old n t ≡ effective_at new n t
taken_elsewhere old new m taken n t other =
    same_effective_of (entry_of old n t) (entry_of new n t) (λ x.
    (let untold : does_tell m n t x ≡ false = and_right (m.net == n) ((m.time == t) && same m.value x) (and_left (m.time == t) (same m.value x) (ne_eqb m.time t other)) in
    let number = taken.numbers n t x in
    sym (number ∙ (ap (λ b. number_of (entry_of old n t) x +ℤ cond b (weight_of m.sign) (pos 0)) untold ∙ omega (arith, ints)))))

-- After a message each event time is at or after the message's time, or at or after a former event time.
pub next_after_receive : {old new : View} {m : Message} → IsLawful old → IsLawful new → IsTaken old new m → (t : ℕ) → IsEventTime new t →
    (m.time ≤ t) ⊎ ((u : ℕ) × IsEventTime old u × (u ≤ t))
next_after_receive {old} {new} {m} isold isnew taken t event = elim (cases_lt t m.time) [
  | inr late ↦ inl late
  | inl early ↦ inr (
      let first = first_event new t event in
      let until = first.2 in
      let start = first.1.0 in
      let end = first.1.1 in
      let same_mark : new.mark ≡ old.mark = taken.in_time (λ straggler. (let back = taken.straggler straggler in absurd (omega (arith, back, start, until, early)))) in
      let same_end : new.horizon ≡ old.horizon = taken.horizon in
      let found = event_until old new isold isnew taken.part taken.horizon first.0 (omega (arith, same_mark, start)) (omega (arith, same_end, end))
      (λ n u l. taken_elsewhere old new m taken n u (λ e. absurd (omega (arith, e, l, until, early))))
      (sym (busy_is-next new isnew first.0 start end first.3) ∙ first.1.2) in
      (found.0, found.1, (let l = found.2 in omega (arith, l, until)))
      )
]

-- After event times were finished, each event time is later than a former one.
pub next_after_advance : {old new : View} {count : ℕ} → IsLawful old → IsLawful new → IsAdvanced old new count → 0 < count → (t : ℕ) → IsEventTime new t → IsAfterEvent old t
next_after_advance {old} {new} isold isnew advanced some t event =
    let moved = advanced.moves some in
    let up = moved.0 in
    let end = moved.1 in
    let same_end : new.horizon ≡ old.horizon = advanced.horizon in
    let from = event.0 in
    let found = event_until old new isold isnew advanced.part advanced.horizon (new.mark - 1) (omega (arith, up)) (omega (arith, up, end, same_end))
    (λ n u l. same_effective old new advanced.part advanced.queues n u)
    (sym (busy_is new isnew (new.mark - 1) (omega arith)) ∙ moved.2) in
    (found.0, found.1, (let l = found.2 in omega (arith, l, up, from)))

-- Where none was finished, nothing has changed.
pub none_finished : {old new : View} → IsLawful old → IsLawful new → IsAdvanced old new 0 → new ≡ old
none_finished {old} {new} isold isnew h =
    let mark : new.mark ≡ old.mark = h.stays refl in
    let logs : new.logs ≡ old.logs = isnew.logs ∙ (lawful_logs mark ∙ sym isold.logs) in
    λ i. record { part = h.part i; horizon = h.horizon i; mark = mark i; floor = h.floor i; queues = h.queues i; logs = logs i }
  where
    lawful_logs : new.mark ≡ old.mark → map (lawful_log new) new.part.nets ≡ map (lawful_log old) old.part.nets
    lawful_logs mark = λ i. map (lawful_log (record { part = h.part i; horizon = h.horizon i; mark = mark i; floor = h.floor i; queues = h.queues i; logs = [] })) (h.part i).nets

-- However many were finished, each event time is at or after a former one.
pub none_before_advance : {old new : View} {count : ℕ} → IsLawful old → IsLawful new → IsAdvanced old new count → (t : ℕ) → IsEventTime new t →
    (u : ℕ) × IsEventTime old u × (u ≤ t)
none_before_advance {old} {new} {count} isold isnew h t event = go count h
  where
    go : (k : ℕ) → IsAdvanced old new k → (u : ℕ) × IsEventTime old u × (u ≤ t)
    go zero none = (t, subst (λ (v : View). IsEventTime v t) (none_finished isold isnew none) event, (let l : t ≤ t = omega arith in l))
    go (suc k) some =
        let after = next_after_advance isold isnew some (omega arith) t event in
        (after.0, after.1, (let l = after.2 in omega (arith, l)))
