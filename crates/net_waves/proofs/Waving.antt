-- Laws of waves, and of their stops.
use Rattle.std.proofs.Common.{◌≡◌, ◌≢◌, ℕ, zero, suc, ◌+◌, ◌<◌, ◌≤◌, ◌^◌, inl, inr, Bool, true, false, cond, ◌&&◌, nat_eq, Some, None, List, [], ◌∷◌, ◌++◌, map, length, get_or, refl, ap, sym, ◌∙◌, subst, arith, replicate, Result, Ok, Err}
use Rattle.std.proofs.Math.ListN.{set, length-set}
use Rattle.std.proofs.lemmas.List.{length-map, length-replicate, get_or-map, get_or_past, map-set}
use Rattle.std.proofs.Math.Seq.{map-set_same}
use Rattle.std.specs.List.{All, AllPairs}
use Rattle.std.specs.Result.{OnErr}
use Rattle.std.proofs.lemmas.List.Elements.{All-cons}
use Rattle.std.proofs.lemmas.List.Kept.{AllPairs-cons}
use Rattle.std.proofs.lemmas.Grind.{common_steps}
use Rattle.gate_values.specs.declared.logic.Logic.{Logic}
use Rattle.gate_values.specs.declared.logic.Logic.TheVariants.{X}
use Rattle.gate_values.specs.declared.logic.Change.{Change}
use Rattle.gate_values.specs.Changes.{last_value, pair_at}
use Rattle.net_waves.specs.Waves.{wave_of, end_time, Follows, IsWaveFrom, IsWave}
use Rattle.net_waves.specs.declared.timeline.Stop.{Stop}
use Rattle.net_waves.specs.Timeline.{one, count}
use Rattle.net_waves.specs.Stops.{marked, AreStopsOf}
use Rattle.net_waves.specs.Inner.Stops.{stop_of, stops_of, stops_below}
use Rattle.net_waves.specs.Inner.HeldWaves.{IsInStep}
use Rattle.net_waves.proofs.Counting.{count-append}
use Rattle.net_waves.proofs.Compared.{eq_true, eq_false, cases_eq, cases_lt, cases_below}

-- times of a wave are at least the one that it is from
pub from-end_time : (from : ℕ) (before : Logic) (cs : List Change) → IsWaveFrom from before cs → from ≤ end_time from cs
from-end_time from before [] w = omega arith
from-end_time from before (c ∷ cs) w = let rest = from-end_time (c.time + 1) c.value cs w.2 in omega (arith, rest, w.0)

-- no change stands after the last one
pub pair_at-end : (from : ℕ) (before : Logic) (cs : List Change) (t : ℕ) → IsWaveFrom from before cs → end_time from cs ≤ t → pair_at cs t ≡ None
pair_at-end from before [] t w h = refl
pair_at-end from before (c ∷ cs) t w h =
    let rest = from-end_time (c.time + 1) c.value cs w.2 in
    let ne : c.time ≢ t = omega (arith, rest) in
    rw (eq_false c.time t ne) (pair_at-end (c.time + 1) c.value cs t w.2 h)

pair_at-push : (cs : List Change) (c : Change) → pair_at cs c.time ≡ None → pair_at (cs ++ c ∷ []) c.time ≡ Some c.value
pair_at-push [] c h = rw (eq_true c.time c.time refl) refl
pair_at-push (x ∷ cs) c h = go (nat_eq x.time c.time) (pair_at-push cs c) h
  where
    go : (b : Bool) → (pair_at cs c.time ≡ None → pair_at (cs ++ c ∷ []) c.time ≡ Some c.value) → cond b (Some x.value) (pair_at cs c.time) ≡ None → cond b (Some x.value) (pair_at (cs ++ c ∷ []) c.time) ≡ Some c.value
    go true ih e = cc
    go false ih e = ih e

pair_at-push_other : (cs : List Change) (c : Change) (t : ℕ) → c.time ≢ t → pair_at (cs ++ c ∷ []) t ≡ pair_at cs t
pair_at-push_other [] c t h = rw (eq_false c.time t h) refl
pair_at-push_other (x ∷ cs) c t h = ap (cond (nat_eq x.time t) (Some x.value)) (pair_at-push_other cs c t h)

-- one change more
pub IsWaveFrom-push : (from : ℕ) (before : Logic) (cs : List Change) (c : Change) → IsWaveFrom from before cs → end_time from cs ≤ c.time → c.value ≢ last_value before cs → IsWaveFrom from before (cs ++ c ∷ [])
IsWaveFrom-push from before [] c w late new = (late, new, tt)
IsWaveFrom-push from before (x ∷ cs) c w late new = (w.0, w.1, IsWaveFrom-push (x.time + 1) x.value cs c w.2 late new)

-- how often a stop stands where one of a change stands
one-here : (net : ℕ) (c : Change) (s : Stop) → s.net ≡ net → s.time ≡ c.time → one s (stop_of net c) ≡ marked s.value (Some c.value)
one-here net c s a b = rw (eq_true s.time c.time b, eq_true s.net net a) refl

one-late : (net : ℕ) (c : Change) (s : Stop) → s.time ≢ c.time → one s (stop_of net c) ≡ 0
one-late net c s h = rw (eq_false s.time c.time h) refl

one-apart : (net : ℕ) (c : Change) (s : Stop) → s.net ≢ net → one s (stop_of net c) ≡ 0
one-apart net c s h = rw (eq_false s.net net h) (go (nat_eq s.time c.time))
  where
    go : (b : Bool) → ◌≡◌ {A = ℕ} (cond (b && false) 1 0) 0
    go true = refl
    go false = refl

-- the stops with one change more
module _ (lists : List (List Change)) (old new : List Stop) (net : ℕ) (c : Change) where
  abbrev pushed : List (List Change)
  pushed = set lists net (wave_of lists net ++ c ∷ [])

  pushed-same : net < length lists → wave_of pushed net ≡ wave_of lists net ++ c ∷ []
  pushed-same h = grind (arith, common_steps)

  pushed-other : (n : ℕ) → n ≢ net → wave_of pushed n ≡ wave_of lists n
  pushed-other n h = grind (arith, common_steps)

  stops_push : AreStopsOf lists old → ((s : Stop) → count s new ≡ one s (stop_of net c) + count s old) → net < length lists → pair_at (wave_of lists net) c.time ≡ None → AreStopsOf pushed new
  stops_push was more known free s = elim (cases_eq s.net net) [
    | inl same_net ↦ elim (cases_eq s.time c.time) [
      | inl now ↦ (
          let value : pair_at (wave_of pushed s.net) s.time ≡ Some c.value = rw (same_net, now, pushed-same known) (pair_at-push (wave_of lists net) c free) in
          let before : count s old ≡ 0 = was s ∙ rw (same_net, now, free) refl in
          rw value (omega (arith, more s, before, one-here net c s same_net now)))
      | inr other ↦ (
          let value : pair_at (wave_of pushed s.net) s.time ≡ pair_at (wave_of lists s.net) s.time = rw (same_net, pushed-same known) (pair_at-push_other (wave_of lists net) c s.time (λ e. other (sym e))) in
          rw value (omega (arith, more s, was s, one-late net c s other)))
    ]
    | inr apart ↦ (rw (pushed-other s.net apart) (omega (arith, more s, was s, one-apart net c s apart)))
  ]

  waves_push : ((n : ℕ) → IsWave (wave_of lists n)) → net < length lists → Follows (wave_of lists net) c → (n : ℕ) → IsWave (wave_of pushed n)
  waves_push was known follows n = elim (cases_eq net n) [
    | inl same ↦ subst (λ (m : ℕ). IsWave (wave_of pushed m)) same (rw (pushed-same known) (IsWaveFrom-push 0 X (wave_of lists net) c (was net) follows.0 follows.1))
    | inr apart ↦ (let apart_too : n ≢ net = λ e. apart (sym e) in rw (pushed-other n apart_too) (was n))
  ]

  -- lists and stops are in step again when both have the change
  pub in_step-push : IsInStep lists old → net < length lists → Follows (wave_of lists net) c → ((s : Stop) → count s new ≡ one s (stop_of net c) + count s old) → (all : List (List Change)) → all ≡ pushed → IsInStep all new
  in_step-push is known follows more all e = rw e (record {
    few = omega (arith, is.few, length-set lists net (wave_of lists net ++ c ∷ []));
    waves = waves_push is.waves known follows;
    in_step = stops_push is.in_step more known (pair_at-end 0 X (wave_of lists net) c.time (is.waves net) follows.0);
  })

-- lists and stops stay in step where neither has changed
pub in_step-kept : (lists all : List (List Change)) (old new : List Stop) → IsInStep lists old → all ≡ lists → ((s : Stop) → count s new ≡ count s old) → IsInStep all new
in_step-kept lists all old new is e same = rw e (record {
  few = is.few;
  waves = is.waves;
  in_step = λ s. same s ∙ is.in_step s;
})

wave_of-none : (count n : ℕ) → wave_of (replicate count []) n ≡ []
wave_of-none zero n = refl
wave_of-none (suc count) zero = refl
wave_of-none (suc count) (suc n) = wave_of-none count n

-- lists without a change, and no stop
pub in_step-none : (many : ℕ) (all : List (List Change)) (stops : List Stop) → many < 2 ^ 32 → all ≡ replicate many [] → stops ≡ [] → IsInStep all stops
in_step-none many all stops small e none = rw e (record {
  few = omega (arith, length-replicate {A = List Change} many []);
  waves = λ n. rw (wave_of-none many n) tt;
  in_step = λ s. rw (none, wave_of-none many s.net) refl;
})

-- ---- the stops of lists, net by net

-- no change stands before the first time
pair_at-before : (from : ℕ) (before : Logic) (cs : List Change) (t : ℕ) → IsWaveFrom from before cs → t < from → pair_at cs t ≡ None
pair_at-before from before [] t w h = refl
pair_at-before from before (c ∷ cs) t w h =
    let ne : c.time ≢ t = omega (arith, w.0) in
    rw (eq_false c.time t ne) (pair_at-before (c.time + 1) c.value cs t w.2 (omega (arith, w.0)))

count-apart : (net : ℕ) (cs : List Change) (s : Stop) → s.net ≢ net → count s (stops_of net cs) ≡ 0
count-apart net [] s h = refl
count-apart net (c ∷ cs) s h = omega (arith, one-apart net c s h, count-apart net cs s h)

-- a wave has a stop once where it has a change
pub count-here : (net from : ℕ) (before : Logic) (cs : List Change) (s : Stop) → IsWaveFrom from before cs → s.net ≡ net → count s (stops_of net cs) ≡ marked s.value (pair_at cs s.time)
count-here net from before [] s w h = refl
count-here net from before (c ∷ cs) s w h =
    let rest = count-here net (c.time + 1) c.value cs s w.2 h in
    elim (cases_eq s.time c.time) [
      | inl now ↦ (
          let none : pair_at cs s.time ≡ None = pair_at-before (c.time + 1) c.value cs s.time w.2 (omega (arith, now)) in
          let no_more : count s (stops_of net cs) ≡ 0 = rest ∙ rw none refl in
          rw (eq_true c.time s.time (sym now)) (omega (arith, one-here net c s h now, no_more)))
      | inr other ↦ (rw (eq_false c.time s.time (λ e. other (sym e))) (omega (arith, one-late net c s other, rest)))
    ]

module _ (lists : List (List Change)) (waves : (n : ℕ) → IsWave (wave_of lists n)) (s : Stop) where
  count-above : (n : ℕ) → n ≤ s.net → count s (stops_below lists n) ≡ 0
  count-above zero h = refl
  count-above (suc n) h = omega (arith, count-append s (stops_below lists n) (stops_of n (wave_of lists n)), count-above n (omega arith), count-apart n (wave_of lists n) s (λ e. omega (arith, e)))

  count-below : (n : ℕ) → s.net < n → count s (stops_below lists n) ≡ marked s.value (pair_at (wave_of lists s.net) s.time)
  count-below zero h = absurd (omega arith)
  count-below (suc n) h = elim (cases_below s.net n h) [
    | inl below ↦ omega (arith, count-append s (stops_below lists n) (stops_of n (wave_of lists n)), count-below n below, count-apart n (wave_of lists n) s (λ e. omega (arith, e)))
    | inr here ↦ (
        let same : wave_of lists s.net ≡ wave_of lists n = ap (wave_of lists) here in
        rw same (omega (arith, count-append s (stops_below lists n) (stops_of n (wave_of lists n)), count-above n (omega (arith, here)), count-here n 0 X (wave_of lists n) s (waves n) here)))
  ]

  count-all : count s (stops_below lists (length lists)) ≡ marked s.value (pair_at (wave_of lists s.net) s.time)
  count-all = elim (cases_lt s.net (length lists)) [
    | inl known ↦ count-below (length lists) known
    | inr past ↦ (rw (get_or_past lists s.net [] past) (count-above (length lists) past))
  ]

-- stops that stand as often as those of all changes of waves are theirs
pub are_stops-of : (lists : List (List Change)) (stops : List Stop) → ((n : ℕ) → IsWave (wave_of lists n)) → ((s : Stop) → count s stops ≡ count s (stops_below lists (length lists))) → AreStopsOf lists stops
are_stops-of lists stops waves same s = same s ∙ count-all lists waves s

-- waves and the stops of all their changes
pub in_step-of : (lists : List (List Change)) (stops : List Stop) → length lists < 2 ^ 32 → ((n : ℕ) → IsWave (wave_of lists n)) → ((s : Stop) → count s stops ≡ count s (stops_below lists (length lists))) → IsInStep lists stops
in_step-of lists stops few waves same = record {
  few = few;
  waves = waves;
  in_step = are_stops-of lists stops waves same;
}

pub on_err : {T E P : Type 0} (r : Result T E) → P → OnErr r P
on_err (Ok x) p = tt
on_err (Err e) p = p

-- the lists that vectors stand for, after a write that changes none of them, and after one that adds a change
module _ {V : Type 0} (list : V → List Change) (vectors : List V) (net : ℕ) (kept : V) where
  pub lists-kept : (was : V) → was ≡ get_or vectors net was → list kept ≡ list was → map list (set vectors net kept) ≡ map list vectors
  lists-kept was at same = map-set_same list vectors net kept was (same ∙ ap list at)

  pub lists-push : (was longer : V) (c : Change) → net < length (map list vectors) → map list (set vectors net kept) ≡ map list vectors → was ≡ get_or (set vectors net kept) net was → list longer ≡ list was ++ c ∷ []
      → map list (set (set vectors net kept) net longer) ≡ set (map list vectors) net (wave_of (map list vectors) net ++ c ∷ [])
  lists-push was longer c known same at more =
      let within : net < length (set vectors net kept) = omega (arith, length-set vectors net kept, length-map vectors list) in
      let old : list was ≡ wave_of (map list vectors) net = ap list at ∙ sym (get_or-map list (set vectors net kept) net was [] within) ∙ ap (λ (ls : List (List Change)). wave_of ls net) same in
      map-set list (set vectors net kept) net longer ∙ rw (same, more, old) refl

-- times of a wave are at least the one that it is from, and rise
wave_from : (from : ℕ) (before : Logic) (cs : List Change) → IsWaveFrom from before cs → All (λ (c : Change). from ≤ c.time) cs
wave_from from before [] w = λ k d l. absurd (omega arith)
wave_from from before (c ∷ cs) w = All-cons (λ (x : Change). from ≤ x.time) c cs w.0 (λ k d l. (let later = wave_from (c.time + 1) c.value cs w.2 k d l in omega (arith, later, w.0)))

pub wave_rises : (from : ℕ) (before : Logic) (cs : List Change) → IsWaveFrom from before cs → AllPairs (λ (a b : Change). a.time < b.time) cs
wave_rises from before [] w = λ i j d h l. absurd (omega arith)
wave_rises from before (c ∷ cs) w =
    AllPairs-cons (λ (a b : Change). a.time < b.time) c cs (λ k d l. (let later = wave_from (c.time + 1) c.value cs w.2 k d l in omega (arith, later))) (wave_rises (c.time + 1) c.value cs w.2)
