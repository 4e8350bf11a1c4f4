-- What is left for a block is later than a time: what events make of that.
use Rattle.std.proofs.Common.{◌≡◌, ◌==◌, ◌||◌, Bool, true, false, cond, [], ◌∷◌, ℕ, ◌+◌, ◌<◌, ◌≤◌, ◌⊎◌, ◌++◌, Result, Ok, Err, OnOk, IfErr, List, length, get_or, inl, inr, refl, ap, sym, ◌∙◌, subst, arith}
use Rattle.std.specs.List.{All, remove, count_by, list_any}
use Rattle.std.proofs.lemmas.Bool.{cases_eq, cases_lt, eqb-true}
use Rattle.std.proofs.lemmas.List.Folds.{Any-from_list_any}
use Rattle.std.proofs.lemmas.List.Sums.{sum_by-cons}
use Rattle.std.proofs.lemmas.List.{get_or_default}
use Rattle.std.proofs.lemmas.List.Elements.{All-append, All-weaker, All-same, All-get_or}
use Rattle.warp_process.specs.declared.message.Message.{Message}
use Rattle.warp_process.specs.Advance.{IsAfterEvent}
use Rattle.warp_process.specs.Sends.{IsSendOf}
use Rattle.warp_process.specs.View.{View, IsEventTime, IsDone}
use Rattle.warp_process.proofs.Laws.{next_after_receive, next_after_advance, none_before_advance}
use Rattle.warp_core.specs.declared.event.Event.TheVariants.{Advance}
use Rattle.warp_core.specs.declared.event.PlayFault.{PlayFault}
use Rattle.warp_core.specs.declared.event.PlayFault.TheVariants.{NoSuchBlock, NoSuchMessage, Memory}
use Rattle.warp_core.specs.Drive.{IsOrder, IsRaised}
use Rattle.warp_core.specs.Inner.Drive.{IsPast}
use Rattle.warp_core.specs.Matched.{seen_at}
use Rattle.warp_core.specs.Play.{IsSameCourse, IsDelivered, IsRun, IsPlayed, IsAfterRefusal}
use Rattle.warp_core.specs.World.{Scene, IsBefore, IsLawfulWorld}
use Rattle.warp_core.proofs.Acting.{same_seen}
use Rattle.warp_core.proofs.CommittedAll.{before_left}
use Rattle.warp_core.proofs.Soonest.{rest_of}

-- a message that reaches its block
module _ (old new : Scene) (law : IsLawfulWorld old) (law' : IsLawfulWorld new) (place t : ℕ) (done : IsDelivered old new place) (before : IsBefore old t) where
  late : t ≤ done.message.time
  late = subst (λ (k : Message). t ≤ k.time) (sym done.at) (All-get_or (λ (k : Message). t ≤ k.time) old.flight place done.message done.within before.flight)

  sent_later : (b : ℕ) → All (λ (m : Message). m.block ≡ b → t < m.time) done.sends.sends.sent
  sent_later b = All-weaker (IsSendOf (seen_at old.blocks done.message.block) (λ u. done.message.time < u)) (λ m. m.block ≡ b → t < m.time)
      (λ m is e. (let l = is.later in omega (arith, l, late))) done.sends.sends.sent done.sends.sends.named

  pub delivered_keeps : (b : ℕ) → b < old.cut.blocks → IsPast old b t → IsPast new b t
  delivered_keeps b within past = record {
    events = λ u event. elim (cases_eq b done.message.block) [
      | inl here ↦
          (let l : b < new.cut.blocks = subst (λ n. b < n) (ap (λ c. c.blocks) (sym done.course.cut)) within in
          let m_later : t < done.message.time = subst (λ (k : Message). t < k.time) (sym done.at)
          (All-get_or (λ (k : Message). k.block ≡ b → t < k.time) old.flight place done.message done.within past.flight (ap (λ (k : Message). k.block) (sym done.at) ∙ sym here)) in
          let event' = subst (λ (k : ℕ). IsEventTime (seen_at new.blocks k) u) here event in
          elim (next_after_receive (law.lawful done.message.block (subst (λ k. k < old.cut.blocks) here within)) (law'.lawful done.message.block (subst (λ k. k < new.cut.blocks) here l)) done.taken u event') [
            | inl after ↦ omega (arith, after, m_later)
            | inr former ↦ (let f = past.events former.0 (subst (λ (k : ℕ). IsEventTime (seen_at old.blocks k) former.0) (sym here) former.1) in omega (arith, f, former.2))
          ])
      | inr other ↦ past.events u (subst (λ (v : View). IsEventTime v u) (same_seen old.blocks new.blocks done.message.block b done.others other) event)
    ];
    flight = All-same (λ (m : Message). m.block ≡ b → t < m.time) new.flight (remove old.flight place ++ done.sends.sends.sent) done.sends.sends.appended
        (All-append (λ (m : Message). m.block ≡ b → t < m.time) (remove old.flight place) done.sends.sends.sent (rest_of (λ m. m.block ≡ b → t < m.time) old.flight place past.flight) (sent_later b));
  }

-- a block that finishes event times
module _ (old new : Scene) (law : IsLawfulWorld old) (law' : IsLawfulWorld new) (a count t : ℕ) (run : IsRun old new a count) (before : IsBefore old t) where
  within' : a < new.cut.blocks
  within' = subst (λ n. a < n) (ap (λ c. c.blocks) (sym run.course.cut)) run.within

  run_sent : (b : ℕ) → All (λ (m : Message). m.block ≡ b → t < m.time) run.sends.sends.sent
  run_sent b = All-weaker (IsSendOf (seen_at old.blocks a) (IsAfterEvent (seen_at old.blocks a))) (λ m. m.block ≡ b → t < m.time)
      (λ m is e. (let after = is.later in let l = before.events a after.0 run.within after.1 in omega (arith, l, after.2))) run.sends.sends.sent run.sends.sends.named

  run_flight : (b : ℕ) → All (λ (m : Message). m.block ≡ b → t < m.time) old.flight → All (λ (m : Message). m.block ≡ b → t < m.time) new.flight
  run_flight b all = All-same (λ (m : Message). m.block ≡ b → t < m.time) new.flight (old.flight ++ run.sends.sends.sent) run.sends.sends.appended
      (All-append (λ (m : Message). m.block ≡ b → t < m.time) old.flight run.sends.sends.sent all (run_sent b))

  pub run_keeps : (b : ℕ) → IsPast old b t → IsPast new b t
  run_keeps b past = record {
    events = λ u event. elim (cases_eq b a) [
      | inl here ↦
          (let former = none_before_advance (law.lawful a run.within) (law'.lawful a within') run.advanced u (subst (λ (k : ℕ). IsEventTime (seen_at new.blocks k) u) here event) in
          let f = past.events former.0 (subst (λ (k : ℕ). IsEventTime (seen_at old.blocks k) former.0) (sym here) former.1) in
          omega (arith, f, former.2))
      | inr other ↦ past.events u (subst (λ (v : View). IsEventTime v u) (same_seen old.blocks new.blocks a b run.others other) event)
    ];
    flight = run_flight b past.flight;
  }

  -- a step moves what is left for the block past the time
  pub run_passes : (count ≡ 1) ⊎ ((count < 1) × IsDone (seen_at new.blocks a)) → All (λ (m : Message). m.block ≡ a → t < m.time) old.flight → IsPast new a t
  run_passes step all = record {
    events = λ u event. elim step [
      | inl one ↦
          (let after = next_after_advance (law.lawful a run.within) (law'.lawful a within') run.advanced (omega (arith, one)) u event in
          let l = before.events a after.0 run.within after.1 in
          omega (arith, l, after.2))
      | inr none ↦ absurd (none.1 u event)
    ];
    flight = run_flight a all;
  }

pub course_then : (a b c : Scene) → IsSameCourse a b → IsSameCourse b c → IsSameCourse a c
course_then a b c first second = record {
  circuit = second.circuit ∙ first.circuit;
  cut = second.cut ∙ first.cut;
  stimulus = second.stimulus ∙ first.stimulus;
  horizon = second.horizon ∙ first.horizon;
}

-- A block was asked for one event time: whatever is answered, what was past a time is.
pub turn_keeps : (old new : Scene) → IsLawfulWorld old → IsLawfulWorld new → (a t b : ℕ) → IsBefore old t → (r : Result (Unit {0}) PlayFault) → OnOk r (IsPlayed old new (Advance a 1)) → IfErr r (IsAfterRefusal old new (Advance a 1)) →
    IsPast old b t → IsPast new b t
turn_keeps old new law law' a t b before (Ok u) played after past = run_keeps old new law law' a played.0 t played.1 before b past
turn_keeps old new law law' a t b before (Err NoSuchBlock) played same past = subst (λ (w : Scene). IsPast w b t) (sym same) past
turn_keeps old new law law' a t b before (Err NoSuchMessage) played same past = subst (λ (w : Scene). IsPast w b t) (sym same) past
turn_keeps old new law law' a t b before (Err Memory) played some past = run_keeps old new law law' a some.0 t some.2 before b past

pub turn_passes : (old new : Scene) → IsLawfulWorld old → IsLawfulWorld new → (a : ℕ) (P : ℕ → Type 0) → ((t : ℕ) → P t → IsBefore old t × All (λ (m : Message). m.block ≡ a → t < m.time) old.flight) →
    (r : Result (Unit {0}) PlayFault) → OnOk r (IsPlayed old new (Advance a 1)) → OnOk r ((t : ℕ) → P t → IsPast new a t)
turn_passes old new law law' a P known (Ok u) played = λ t p. (let k = known t p in run_passes old new law law' a played.0 t played.1 k.0 played.2 k.1)
turn_passes old new law law' a P known (Err e) played = tt

-- where each number stands once, each is found
pub order_has : (order : List ℕ) (count b : ℕ) → IsOrder count order → b < count → (k : ℕ) × (k < length order) × (get_or order k 0 ≡ b)
order_has order count b is within =
    let one = is.once b within in
    let (k, x, l, at, e) = Any-from_list_any (λ y. y == b) order (found (λ y. y == b) order (omega (arith, one))) in
    (k, l, get_or_default order k 0 x l ∙ (at ∙ eqb-true x b e))
  where
    found : (p : ℕ → Bool) (xs : List ℕ) → 0 < count_by p xs → list_any p xs ≡ true
    found p [] h = absurd (omega (arith, h))
    found p (x ∷ xs) h = go (p x) (found p xs) (subst (λ k. 0 < k) (sum_by-cons (λ k. cond (p k) 1 0) x xs) h)
      where
        go : (b : Bool) → (0 < count_by p xs → list_any p xs ≡ true) → 0 < cond b 1 0 + count_by p xs → (b || list_any p xs) ≡ true
        go true rest h = refl
        go false rest h = rest (omega (arith, h))

module _ (old new : Scene) (course : IsSameCourse old new) (law : IsLawfulWorld new) (never : (s : ℕ) → IsBefore old s → IsBefore new s) (order : List ℕ) (is : IsOrder old.cut.blocks order)
    (past : (t k : ℕ) → IsBefore old t → k < length order → IsPast new (get_or order k 0) t) where
  past_all : (s b : ℕ) → IsBefore old s → b < new.cut.blocks → IsPast new b s
  past_all s b before within =
      let place = order_has order old.cut.blocks b is (subst (λ n. b < n) (ap (λ k. k.blocks) course.cut) within) in
      subst (λ (k : ℕ). IsPast new k s) place.2 (past s place.0 before place.1)

  higher : (s : ℕ) → IsBefore old s → s ≤ old.horizon → IsBefore new (s + 1)
  higher s before early = record {
    events = λ b u within event. (let l = (past_all s b before within).events u event in omega (arith, l));
    flight = λ i m within. (let l = (past_all s (get_or new.flight i m).block before (law.flight i m within).block).flight i m within refl in omega (arith, l));
    end = (let same = course.horizon in omega (arith, early, same));
  }

  -- after a turn of each block the least time is higher
  pub raised : IsRaised old new
  raised s t least now = elim (cases_lt old.horizon s) [
    | inl beyond ↦
        (let end = least.before.end in
        let end' = now.before.end in
        let same = course.horizon in
        let low = before_left new s t (never s least.before) now.left in
        inr (omega (arith, beyond, end), omega (arith, beyond, end, end', same, low)))
    | inr early ↦ inl (let l = before_left new (s + 1) t (higher s least.before early) now.left in omega (arith, l))
  ]

-- a least time that isn't past the horizon has risen
pub higher_than : (w : Scene) (s t horizon : ℕ) → w.horizon ≡ horizon → s ≤ horizon → (s < t) ⊎ ((s ≡ w.horizon + 1) × (t ≡ s)) → s < t
higher_than w s t horizon same early (inl higher) = higher
higher_than w s t horizon same early (inr past) = (let e = past.0 in absurd (omega (arith, same, early, e)))
