-- What finishing one event time does to a block.
use Rattle.std.proofs.Common.{◌≡◌, ℕ, true, ◌+◌, ◌-◌, ◌<◌, ◌≤◌, Some, List, [], ◌∷◌, ap, sym, ◌∙◌, arith}
use Rattle.std.specs.List.{All}
use Rattle.std.proofs.lemmas.List.Elements.{All-nil, All-cons}
use Rattle.warp_process.specs.Entries.{Received, entry_in, effective_of}
use Rattle.warp_part.specs.Portion.{Portion, of_net}
use Rattle.warp_process.specs.View.{View, Saved, effective_at, is_busy, busy_times, IsLeast, IsEventTime}
use Rattle.warp_process.specs.Lawful.{IsLawful, AreSaved}
use Rattle.warp_process.specs.Advance.{IsAdvanced}
use Rattle.warp_process.specs.Inner.Advance.{IsQuiet}
use Rattle.warp_process.proofs.SavingTimes.{times-split, times-none, times-one}
use Rattle.warp_process.proofs.SavingBusy.{busy_is, busy_is-next, happens_agree, busy_agree}
use Rattle.warp_process.proofs.SavingStates.{spaced_until, spaced_marks}

-- no saved state is past the mark
pub saved_marks : (v : View) (ss : List Saved) → AreSaved v ss → All (λ (s : Saved). s.mark ≤ v.mark) ss
saved_marks v [] h = All-nil (λ (s : Saved). s.mark ≤ v.mark)
saved_marks v (s ∷ ss) h = All-cons (λ (s : Saved). s.mark ≤ v.mark) s ss (spaced_until v s.mark ss h.1) (spaced_marks v s.mark ss h.1)

-- before the least event time nothing happens
pub quiet_before_least : (v : View) (time : ℕ) → IsLeast (IsEventTime v) (Some time) → IsQuiet v time
quiet_before_least v time least t from below busy = (let end = least.0.1 in let not_less = least.1 t (from, omega (arith, below, end), busy) in absurd (omega (arith, not_less, below)))

-- effective values are those of the queues
pub same_effective : (v w : View) → w.part ≡ v.part → w.queues ≡ v.queues → (n t : ℕ) → effective_at v n t ≡ effective_at w n t
same_effective v w part queues n t =
    ap (λ (p : Portion). effective_of (entry_in (of_net p.nets v.queues [] n) t)) (sym part)
    ∙ ap (λ (qs : List (List Received)). effective_of (entry_in (of_net w.part.nets qs [] n) t)) (sym queues)

module _ (v w : View) (is : IsLawful v) (isw : IsLawful w) (part : w.part ≡ v.part) (horizon : w.horizon ≡ v.horizon) (floor : w.floor ≡ v.floor) (queues : w.queues ≡ v.queues)
    (time : ℕ) (mark : w.mark ≡ time + 1) (least : IsLeast (IsEventTime v) (Some time)) where
  -- busy times stay
  same_before : (t : ℕ) → t < v.mark → t < w.mark → is_busy v t ≡ is_busy w t
  same_before t l k = busy_agree v w is isw part horizon t (omega (arith, l)) (omega (arith, k)) (λ n u _. same_effective v w part queues n u)

  same_since : (t : ℕ) → v.mark ≤ t → t ≤ time → is_busy v t ≡ is_busy w t
  same_since t from until =
      let end = least.0.1 in
      busy_is-next v is t from (omega (arith, until, end)) (λ u a b. quiet_before_least v time least u a (omega (arith, b, until)))
      ∙ (happens_agree v w is part horizon t (λ n u _. same_effective v w part queues n u)
      ∙ sym (busy_is w isw t (omega (arith, mark, until))))

  busy_now : is_busy w time ≡ true
  busy_now = sym (same_since time least.0.0 (omega arith)) ∙ least.0.2

  pub finished_one : busy_times w v.mark w.mark ≡ 1
  finished_one =
      let from = least.0.0 in
      let split : busy_times w v.mark w.mark ≡ busy_times w v.mark time + busy_times w time w.mark = times-split (is_busy w) v.mark time w.mark from (omega (arith, mark)) in
      let none : busy_times w v.mark time ≡ 0 =
      times-none (is_busy w) v.mark time (λ t a b busy. quiet_before_least v time least t a b (same_since t a (omega (arith, b)) ∙ busy)) in
      let one : busy_times w time w.mark ≡ 1 = times-one (is_busy w) time w.mark mark busy_now in
      omega (arith, split, none, one)

  busy_last : is_busy w (w.mark - 1) ≡ true
  busy_last = ap (is_busy w) (let e : w.mark - 1 ≡ time = omega (arith, mark) in e) ∙ busy_now

  pub one_advanced : IsAdvanced v w 1
  one_advanced = record {
    part = part;
    horizon = horizon;
    floor = floor;
    queues = queues;
    finished = sym finished_one;
    stays = λ e. absurd (omega (arith, e));
    moves = λ _. (let from = least.0.0 in let end = least.0.1 in (omega (arith, from, mark), omega (arith, end, mark, horizon), busy_last));
  }
