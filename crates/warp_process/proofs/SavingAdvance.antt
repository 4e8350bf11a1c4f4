-- Event times that are finished one after another.
use Rattle.std.proofs.Common.{◌≡◌, ℕ, zero, suc, ◌+◌, ◌-◌, ◌<◌, ◌≤◌, ◌⊎◌, inl, inr, List, refl, ◌∙◌, subst, arith}
use Rattle.warp_process.specs.declared.message.Message.{Message}
use Rattle.warp_process.specs.declared.message.Sign.TheVariants.{Plus}
use Rattle.warp_process.specs.View.{View, is_busy, busy_times, IsEventTime}
use Rattle.warp_process.specs.Lawful.{IsLawful}
use Rattle.warp_process.specs.Sends.{SendsOnce}
use Rattle.warp_process.specs.Advance.{IsAdvanced, IsAfterEvent}
use Rattle.warp_process.proofs.Sends.{once_nothing, once_for, once_then}
use Rattle.warp_process.proofs.SavingTimes.{times-split, times-agree}
use Rattle.warp_process.proofs.SavingBusy.{busy_agree}
use Rattle.warp_process.proofs.SavingStep.{same_effective}

pub none_advanced : (v : View) → IsAdvanced v v 0
none_advanced v = record {
  part = refl;
  horizon = refl;
  floor = refl;
  queues = refl;
  finished = (let e : v.mark - v.mark ≡ 0 = omega arith in rw e refl);
  stays = λ _. refl;
  moves = λ some. absurd (omega (arith, some));
}

-- the mark doesn't go back
not_back : (a b : View) (k : ℕ) → IsAdvanced a b k → a.mark ≤ b.mark
not_back a b zero h = (let e = h.stays refl in omega (arith, e))
not_back a b (suc k) h = (let m = h.moves (omega arith) in let l = m.0 in omega (arith, l))

-- one event time more
pub more_advanced : (a b c : View) (k : ℕ) → IsLawful b → IsLawful c → IsAdvanced a b k → IsAdvanced b c 1 → IsAdvanced a c (k + 1)
more_advanced a b c k isb isc first second =
    let on = second.moves (omega arith) in
    let up : b.mark < c.mark = on.0 in
    let from : a.mark ≤ b.mark = not_back a b k first in
    let split : busy_times c a.mark c.mark ≡ busy_times c a.mark b.mark + busy_times c b.mark c.mark = times-split (is_busy c) a.mark b.mark c.mark from (omega (arith, up)) in
    let same : busy_times b a.mark b.mark ≡ busy_times c a.mark b.mark =
    times-agree (is_busy b) (is_busy c) a.mark b.mark (λ t l below. busy_agree b c isb isc second.part second.horizon t (omega (arith, below)) (omega (arith, below, up)) (λ n u _. same_effective b c second.part second.queues n u)) in
    let before : k ≡ busy_times b a.mark b.mark = first.finished in
    let one : 1 ≡ busy_times c b.mark c.mark = second.finished in
    record {
      part = second.part ∙ first.part;
      horizon = second.horizon ∙ first.horizon;
      floor = second.floor ∙ first.floor;
      queues = second.queues ∙ first.queues;
      finished = omega (arith, split, same, before, one);
      stays = λ e. absurd (omega (arith, e));
      moves = λ _. (omega (arith, from, up), on.1, on.2);
    }

-- Nothing was done yet, or an event time was finished.
abbrev pub IsUnderWay : View → View → Type 0
IsUnderWay a b = (b ≡ a) ⊎ ((u : ℕ) × IsEventTime a u × (u < b.mark))

-- a later event time isn't before all of the earlier block
event_before : (a b : View) (time : ℕ) → IsUnderWay a b → IsEventTime b time → (u : ℕ) × IsEventTime a u × (u ≤ time)
event_before a b time (inl same) event = (time, subst (λ (v : View). IsEventTime v time) same event, omega arith)
event_before a b time (inr past) event = (past.0, past.1, (let l = past.2 in let from = event.0 in omega (arith, l, from)))

pub more_under_way : (a b c : View) (time : ℕ) → IsUnderWay a b → IsEventTime b time → c.mark ≡ time + 1 → IsUnderWay a c
more_under_way a b c time way event mark =
    let first = event_before a b time way event in
    inr (first.0, first.1, (let l = first.2 in omega (arith, l, mark)))

pub none_sent : (v : View) (out : List Message) → SendsOnce v v Plus (IsAfterEvent v) out out
none_sent v out = once_nothing v v Plus (IsAfterEvent v) out out (λ p. refl) refl

-- what is sent by one event time more
pub more_sent : (a b c : View) (k time : ℕ) (x y z : List Message) → IsAdvanced a b k → IsUnderWay a b → IsEventTime b time →
    SendsOnce a b Plus (IsAfterEvent a) x y → SendsOnce b c Plus (λ t. time < t) y z → SendsOnce a c Plus (IsAfterEvent a) x z
more_sent a b c k time x y z advanced way event sent more =
    let first = event_before a b time way event in
    once_then advanced.part advanced.horizon sent
    (once_for {P = λ t. time < t} {Q = IsAfterEvent a} (λ t later. (first.0, first.1, (let l = first.2 in omega (arith, l, later)))) more)
