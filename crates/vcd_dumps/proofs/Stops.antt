-- All changes of some nets up to a time, in the order of time and net; and what is written of them.
use Rattle.std.proofs.Common.{◌≡◌, ◌≢◌, ℕ, zero, suc, ◌<◌, ◌≤◌, inl, inr, Bool, true, false, cond, not, ◌||◌, ◌&&◌, nat_eq, Some, None, List, [], ◌∷◌, ◌++◌, refl, ap, sym, ◌∙◌, subst, arith, append_assoc}
use Rattle.std.proofs.lemmas.List.{append-nil}
use Rattle.std.proofs.lemmas.Bool.Decides.{nat_tests}
use Rattle.std.specs.List.{AllByRecursion}
use Rattle.gate_values.specs.declared.logic.Logic.{Logic}
use Rattle.gate_values.specs.Changes.{same, just_before}
use Rattle.gate_values.proofs.ChangeLists.{change_option}
use Rattle.vcd_dumps.specs.Dump.{stamp, value_line, has_change, some_change, change_lines, moment, moments}
use Rattle.net_waves.specs.declared.timeline.Stop.{Stop}
use Rattle.net_waves.specs.Timeline.{IsRising, count}
use Rattle.net_waves.specs.Stops.{marked}
use Rattle.vcd_dumps.specs.Walk.{walked, last_stop}
use Rattle.vcd_dumps.specs.Inner.Walk.{tail_line}
use Rattle.net_waves.proofs.Counting.{count-append}
use Rattle.net_waves.proofs.Rising.{All-append, All-weaker, Earlier, rising-push}
use Rattle.vcd_dumps.proofs.Walking.{walked-append, last_stop-append}
use Rattle.net_waves.proofs.Compared.{eq_true, eq_false, lt_true, lt_false, cases_eq, cases_below}

-- `value n t` is the value of net n at time t
module _ (value : ℕ → ℕ → Logic) where
  -- the changes at t of the nets below n
  abbrev pub stops_at : ℕ → ℕ → List Stop
  stops_at t zero = []
  stops_at t (suc n) = stops_at t n ++ cond (has_change value t n) ((record { time = t; net = n; value = value n t }) ∷ []) []

  -- the changes of so many nets below a time
  abbrev pub all_stops : ℕ → ℕ → List Stop
  all_stops nets zero = []
  all_stops nets (suc t) = all_stops nets t ++ stops_at t nets

  last_stop-at : (last t n : ℕ) → last_stop last (stops_at t n) ≡ cond (some_change value t n) t last
  unfolding some_change
  last_stop-at last t zero = refl
  last_stop-at last t (suc n) =
      last_stop-append last (stops_at t n) _ ∙ rw (last_stop-at last t n) (go (some_change value t n) (has_change value t n))
    where
      go : (a b : Bool) → last_stop (cond a t last) (cond b ((record { time = t; net = n; value = value n t }) ∷ []) []) ≡ cond (a || b) t last
      go true true = refl
      go true false = refl
      go false true = refl
      go false false = refl

  change_lines-quiet : (t n : ℕ) → some_change value t n ≡ false → change_lines value t n ≡ []
  unfolding some_change change_lines
  change_lines-quiet t zero e = refl
  change_lines-quiet t (suc n) e = go (some_change value t n) (has_change value t n) e (change_lines-quiet t n)
    where
      go : (a b : Bool) → (a || b) ≡ false → (a ≡ false → change_lines value t n ≡ []) → change_lines value t n ++ cond b (value_line (value n t) n) [] ≡ []
      go true b e h = cc
      go false true e h = cc
      go false false e h = rw (h refl) refl

  -- the changes at a time that is later than the last one
  walked-at : (last t n : ℕ) → last < t → walked last (stops_at t n) ≡ cond (some_change value t n) (stamp t ++ change_lines value t n) []
  unfolding some_change change_lines
  walked-at last t zero h = refl
  walked-at last t (suc n) h =
      walked-append last (stops_at t n) _ ∙ rw (walked-at last t n h, last_stop-at last t n) (go (some_change value t n) refl (has_change value t n))
    where
      positive : nat_eq t 0 ≡ false
      positive = eq_false t 0 (λ e. omega arith)

      later : nat_eq t last ≡ false
      later = eq_false t last (λ e. omega arith)

      go : (a : Bool) → some_change value t n ≡ a → (b : Bool) → cond a (stamp t ++ change_lines value t n) [] ++ walked (cond a t last) (cond b ((record { time = t; net = n; value = value n t }) ∷ []) []) ≡ cond (a || b) (stamp t ++ (change_lines value t n ++ cond b (value_line (value n t) n) [])) []
      go true e true = rw (positive, eq_true t t refl, append-nil (value_line (value n t) n)) (append_assoc (stamp t) (change_lines value t n) (value_line (value n t) n))
      go true e false = append_assoc (stamp t) (change_lines value t n) []
      go false e true = rw (positive, later, change_lines-quiet t n e) (append-nil (stamp t ++ value_line (value n t) n))
      go false e false = refl

  -- at time 0 nothing is written
  walked-first : (n : ℕ) → walked 0 (stops_at 0 n) ≡ []
  walked-first zero = refl
  walked-first (suc n) = walked-append 0 (stops_at 0 n) _ ∙ rw (walked-first n) (go (has_change value 0 n))
    where
      go : (b : Bool) → walked (last_stop 0 (stops_at 0 n)) (cond b ((record { time = 0; net = n; value = value n 0 }) ∷ []) []) ≡ []
      go true = refl
      go false = refl

  last_stop-all : (nets t : ℕ) → last_stop 0 (all_stops nets (suc t)) ≤ t
  last_stop-all nets zero = rw (last_stop-at 0 0 nets) (go (some_change value 0 nets))
    where
      go : (b : Bool) → cond b 0 0 ≤ 0
      go true = omega arith
      go false = omega arith
  last_stop-all nets (suc t) =
      rw (last_stop-append 0 (all_stops nets (suc t)) (stops_at (suc t) nets), last_stop-at (last_stop 0 (all_stops nets (suc t))) (suc t) nets) (go (some_change value (suc t) nets) (last_stop-all nets t))
    where
      go : (b : Bool) → last_stop 0 (all_stops nets (suc t)) ≤ t → cond b (suc t) (last_stop 0 (all_stops nets (suc t))) ≤ suc t
      go true h = omega arith
      go false h = omega arith

  -- below the horizon the moments are what is written of the changes
  moments-below : (nets horizon t : ℕ) → t < horizon → moments value nets horizon t ≡ walked 0 (all_stops nets (suc t))
  unfolding moments moment
  moments-below nets horizon zero h = sym (walked-first nets)
  moments-below nets horizon (suc t) h =
      rw (
        walked-append 0 (all_stops nets (suc t)) (stops_at (suc t) nets),
        ← moments-below nets horizon t (omega arith),
        walked-at (last_stop 0 (all_stops nets (suc t))) (suc t) nets (omega (arith, last_stop-all nets t)),
        early,
      ) (go (some_change value (suc t) nets))
    where
      early : nat_eq (suc t) horizon ≡ false
      early = eq_false (suc t) horizon (λ e. omega arith)

      go : (b : Bool) → moments value nets horizon t ++ cond (b || false) (stamp (suc t) ++ change_lines value (suc t) nets) [] ≡ moments value nets horizon t ++ cond b (stamp (suc t) ++ change_lines value (suc t) nets) []
      go true = refl
      go false = refl

  -- up to the horizon, with the horizon's own line
  pub moments-walked : (nets horizon : ℕ) → moments value nets horizon horizon ≡ walked 0 (all_stops nets (suc horizon)) ++ tail_line (last_stop 0 (all_stops nets (suc horizon))) horizon
  unfolding moments moment
  moments-walked nets zero = rw (walked-first nets, lt_false (last_stop 0 (stops_at 0 nets)) 0 (omega arith)) refl
  moments-walked nets (suc t) =
      rw (
        walked-append 0 (all_stops nets (suc t)) (stops_at (suc t) nets),
        last_stop-append 0 (all_stops nets (suc t)) (stops_at (suc t) nets),
        last_stop-at (last_stop 0 (all_stops nets (suc t))) (suc t) nets,
        ← moments-below nets (suc t) t (omega arith),
        walked-at (last_stop 0 (all_stops nets (suc t))) (suc t) nets (omega (arith, last_stop-all nets t)),
        eq_true (suc t) (suc t) refl,
      )
      (go (some_change value (suc t) nets) refl)
    where
      go : (b : Bool) → some_change value (suc t) nets ≡ b →
          moments value nets (suc t) t ++ cond (b || true) (stamp (suc t) ++ change_lines value (suc t) nets) []
          ≡ (moments value nets (suc t) t ++ cond b (stamp (suc t) ++ change_lines value (suc t) nets) []) ++ tail_line (cond b (suc t) (last_stop 0 (all_stops nets (suc t)))) (suc t)
      go true e = rw (lt_false (suc t) (suc t) (omega arith)) (sym (append-nil _))
      go false e = rw (lt_true (last_stop 0 (all_stops nets (suc t))) (suc t) (omega (arith, last_stop-all nets t)), change_lines-quiet (suc t) nets e) (ap (λ l. moments value nets (suc t) t ++ l) (append-nil (stamp (suc t))) ∙ ap (λ l. l ++ stamp (suc t)) (sym (append-nil _)))

  -- ---- which changes there are
  -- the stop of net n at t, if that is a change
  abbrev stop_if : ℕ → ℕ → List Stop
  stop_if t n = cond (has_change value t n) (record { time = t; net = n; value = value n t } ∷ []) []

  other_stop : (s : Stop) (t n : ℕ) → (s.time ≡ t → s.net ≡ n → ⊥) → count s (stop_if t n) ≡ 0
  other_stop s t n h = go (has_change value t n)
    where
      differ : (a b : Bool) → nat_eq s.time t ≡ a → nat_eq s.net n ≡ b → (a && (b && same s.value (value n t))) ≡ false
      differ true true e f = absurd (h (grind (arith, nat_tests, e)) (grind (arith, nat_tests, f)))
      differ true false e f = refl
      differ false b e f = refl

      go : (b : Bool) → count s (cond b (record { time = t; net = n; value = value n t } ∷ []) []) ≡ 0
      go true = rw (differ (nat_eq s.time t) (nat_eq s.net n) refl refl) (omega arith)
      go false = refl

  same_stop : (s : Stop) → count s (stop_if s.time s.net) ≡ marked s.value (change_option (value s.net) s.time)
  same_stop s = go (same (value s.net s.time) (just_before (value s.net) s.time))
    where
      go : (b : Bool) → count s (cond (not b) (record { time = s.time; net = s.net; value = value s.net s.time } ∷ []) []) ≡ marked s.value (cond b None (Some (value s.net s.time)))
      go true = refl
      go false = rw (eq_true s.time s.time refl, eq_true s.net s.net refl) (omega arith)

  stops_at-other : (s : Stop) (t n : ℕ) → s.time ≢ t → count s (stops_at t n) ≡ 0
  stops_at-other s t zero h = refl
  stops_at-other s t (suc n) h = omega (arith, count-append s (stops_at t n) (stop_if t n), stops_at-other s t n h, other_stop s t n (λ e _. h e))

  stops_at-above : (s : Stop) (n : ℕ) → n ≤ s.net → count s (stops_at s.time n) ≡ 0
  stops_at-above s zero h = refl
  stops_at-above s (suc n) h = omega (arith, count-append s (stops_at s.time n) (stop_if s.time n), stops_at-above s n (omega arith), other_stop s s.time n (λ _ e. omega (arith, e)))

  stops_at-here : (s : Stop) (n : ℕ) → s.net < n → count s (stops_at s.time n) ≡ marked s.value (change_option (value s.net) s.time)
  stops_at-here s zero h = absurd (omega arith)
  stops_at-here s (suc n) h = elim (cases_below s.net n h) [
    | inl below ↦ omega (arith, count-append s (stops_at s.time n) (stop_if s.time n), stops_at-here s n below, other_stop s s.time n (λ _ e. omega (arith, e)))
    | inr same_net ↦ subst (λ (k : ℕ). count s (stops_at s.time (suc k)) ≡ marked s.value (change_option (value s.net) s.time)) same_net
        (omega (arith, count-append s (stops_at s.time s.net) (stop_if s.time s.net), stops_at-above s s.net (omega arith), same_stop s))
  ]

  pub all_stops-late : (nets t : ℕ) (s : Stop) → t ≤ s.time → count s (all_stops nets t) ≡ 0
  all_stops-late nets zero s h = refl
  all_stops-late nets (suc t) s h = omega (arith, count-append s (all_stops nets t) (stops_at t nets), all_stops-late nets t s (omega arith), stops_at-other s t nets (λ e. omega (arith, e)))

  at_now : (nets t : ℕ) (s : Stop) (many : ℕ) → s.time ≡ t → count s (stops_at s.time nets) ≡ many → count s (stops_at t nets) ≡ many
  at_now nets t s many now h = subst (λ (u : ℕ). count s (stops_at u nets) ≡ many) now h

  pub all_stops-above : (nets t : ℕ) (s : Stop) → nets ≤ s.net → count s (all_stops nets t) ≡ 0
  all_stops-above nets zero s h = refl
  all_stops-above nets (suc t) s h = omega (arith, count-append s (all_stops nets t) (stops_at t nets), all_stops-above nets t s h, here)
    where
      here : count s (stops_at t nets) ≡ 0
      here = elim (cases_eq s.time t) [
        | inl now ↦ at_now nets t s 0 now (stops_at-above s nets h)
        | inr other ↦ stops_at-other s t nets other
      ]

  pub all_stops-here : (nets t : ℕ) (s : Stop) → s.time < t → s.net < nets → count s (all_stops nets t) ≡ marked s.value (change_option (value s.net) s.time)
  all_stops-here nets zero s h k = absurd (omega arith)
  all_stops-here nets (suc t) s h k = elim (cases_below s.time t h) [
    | inl below ↦ omega (arith, count-append s (all_stops nets t) (stops_at t nets), stops_at-other s t nets (λ e. omega (arith, e)), all_stops-here nets t s below k)
    | inr now ↦ omega (arith, count-append s (all_stops nets t) (stops_at t nets), all_stops-late nets t s (omega (arith, now)), at_now nets t s _ now (stops_at-here s nets k))
  ]

  stops_at-known : (nets t n : ℕ) → n ≤ nets → AllByRecursion (λ (s : Stop). s.net < nets) (stops_at t n)
  stops_at-known nets t zero h = tt
  stops_at-known nets t (suc n) h = All-append (λ (s : Stop). s.net < nets) (stops_at t n) _ (stops_at-known nets t n (omega arith)) (go (has_change value t n))
    where
      go : (b : Bool) → AllByRecursion (λ (s : Stop). s.net < nets) (cond b ((record { time = t; net = n; value = value n t }) ∷ []) [])
      go true = (omega arith, tt)
      go false = tt

  all_stops-known : (nets t : ℕ) → AllByRecursion (λ (s : Stop). s.net < nets) (all_stops nets t)
  all_stops-known nets zero = tt
  all_stops-known nets (suc t) = All-append (λ (s : Stop). s.net < nets) (all_stops nets t) (stops_at t nets) (all_stops-known nets t) (stops_at-known nets t nets (omega arith))

  -- they are of the nets that there are
  pub known_below : (nets most t : ℕ) → nets ≤ most → AllByRecursion (λ (s : Stop). s.net < most) (all_stops nets t)
  known_below nets most t h = All-weaker (λ (s : Stop). s.net < nets) (λ (s : Stop). s.net < most) (all_stops nets t) (λ s l. omega arith) (all_stops-known nets t)

  -- ---- they are in order
  record InTime (t n : ℕ) (xs : List Stop) : Type 0 where
    rising : IsRising xs
    early : AllByRecursion (Earlier t n) xs

  wider : (t n : ℕ) (s : Stop) → Earlier t n s → Earlier t (suc n) s
  wider t n s (inl h) = inl h
  wider t n s (inr h) = inr (h.0, omega (arith, h.1))

  later : (t n : ℕ) (s : Stop) → Earlier t n s → Earlier (suc t) 0 s
  later t n s (inl h) = inl (omega arith)
  later t n s (inr h) = inl (omega (arith, h.0))

  in_time-push : (t n : ℕ) (v : Logic) (b : Bool) (xs : List Stop) → InTime t n xs → InTime t (suc n) (xs ++ cond b (record { time = t; net = n; value = v } ∷ []) [])
  in_time-push t n v true xs o = record {
    rising = rising-push xs _ o.rising (All-weaker (Earlier t n) _ xs (λ s e. e) o.early);
    early = All-append (Earlier t (suc n)) xs _ (All-weaker (Earlier t n) (Earlier t (suc n)) xs (wider t n) o.early) (inr (refl, omega arith), tt);
  }
  in_time-push t n v false xs o = rw (append-nil xs) (record {
    rising = o.rising;
    early = All-weaker (Earlier t n) (Earlier t (suc n)) xs (wider t n) o.early;
  })

  in_time-at : (t n : ℕ) (xs : List Stop) → InTime t 0 xs → InTime t n (xs ++ stops_at t n)
  in_time-at t zero xs o = rw (append-nil xs) o
  in_time-at t (suc n) xs o = rw (← append_assoc xs (stops_at t n) (stop_if t n)) (in_time-push t n (value n t) (has_change value t n) (xs ++ stops_at t n) (in_time-at t n xs o))

  in_time-all : (nets t : ℕ) → InTime t 0 (all_stops nets t)
  in_time-all nets zero = record { rising = tt; early = tt }
  in_time-all nets (suc t) =
      let o = in_time-at t nets (all_stops nets t) (in_time-all nets t) in
      record { rising = o.rising; early = All-weaker (Earlier t nets) (Earlier (suc t) 0) _ (later t nets) o.early }

  pub all_stops-rising : (nets t : ℕ) → IsRising (all_stops nets t)
  all_stops-rising nets t = (in_time-all nets t).rising
