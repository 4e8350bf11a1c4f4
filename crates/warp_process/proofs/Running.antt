-- How the lawful logs of a block change, for any sources and effective values.
use Rattle.std.proofs.Common.{◌≡◌, ℕ, zero, suc, Bool, true, false, cond, ◌+◌, ◌<◌, ◌≤◌, ◌⊎◌, inl, inr, min, Option, Some, None, List, [], ◌∷◌, ◌++◌, refl, ap, sym, ◌∙◌, arith, leb, pred}
use Rattle.std.specs.List.{AllByRecursion}
use Rattle.std.proofs.lemmas.Bool.{cond-true}
use Rattle.std.proofs.lemmas.Grind.{common_steps}
use Rattle.std.proofs.lemmas.List.{append-nil}
use Rattle.gate_values.specs.declared.logic.Logic.{Logic}
use Rattle.gate_values.specs.declared.logic.Logic.TheVariants.{X}
use Rattle.gate_values.specs.declared.logic.Change.{Change}
use Rattle.gate_values.specs.Behaviour.{Source, Outside, Gate, Flop, before, value, source_delay, history}
use Rattle.gate_values.specs.Inner.Behaviour.{IsOver}
use Rattle.gate_values.specs.Changes.{changes, change_at, held, pair_at, before_time, just_before, same}
use Rattle.gate_values.proofs.Behaving.{Joined, same_values, same_before, quiet_value, outside_is}
use Rattle.gate_values.proofs.ChangeLists.{changes-agree, before_time-changes, pair_at-changes, pair_at-late, held-none, held-agree, change_option, same_is, same_refl}
use Rattle.warp_part.specs.Portion.{is_driven}

-- every delay is at least 1
abbrev pub IsTimed : Source → Type 0
IsTimed Outside = Unit {0}
IsTimed (Gate kind delay inputs) = 0 < delay
IsTimed (Flop delay d c i) = 0 < delay

-- what effective values give
abbrev pub given : (ℕ → ℕ → Option Logic) → ℕ → ℕ → Logic
given at t n = held (at n) t

-- the log of a net at a mark
abbrev pub run_log : (ℕ → Source) → (ℕ → ℕ → Option Logic) → ℕ → ℕ → ℕ → List Change
run_log source at mark horizon n =
    cond (is_driven (source n)) (before_time (mark + source_delay (source n)) (changes (value source (given at) n) (horizon + 1))) []

-- something sets the net
abbrev pub IsDriven : Source → Type 0
IsDriven s = is_driven s ≡ true

each-net : (P : ℕ → Type 0) → ((i : ℕ) → P i) → (xs : List ℕ) → AllByRecursion P xs
each-net P h [] = tt
each-net P h (x ∷ xs) = (h x, each-net P h xs)

pub driven_or_not : (s : Source) → IsDriven s ⊎ (s ≡ Outside)
driven_or_not Outside = inr refl
driven_or_not (Gate kind delay inputs) = inl refl
driven_or_not (Flop delay d c i) = inl refl

over_all : (N : ℕ → Type 0) → ((i : ℕ) → N i) → (s : Source) → IsDriven s → IsTimed s → IsOver N s
over_all N h Outside d t = cc
over_all N h (Gate kind delay inputs) d t = (t, each-net N h inputs)
over_all N h (Flop delay dn c i) d t = (t, h dn, h c)

pub delayed : (s : Source) → IsTimed s → IsDriven s → 0 < source_delay s
delayed Outside t d = cc
delayed (Gate kind delay inputs) t d = t
delayed (Flop delay dn c i) t d = t

pub le_cases : (a b : ℕ) → (a ≤ b) ⊎ (b < a)
le_cases a b = grind arith

change_none : (f : ℕ → Logic) (t : ℕ) → change_option f t ≡ None → f t ≡ just_before f t
change_none f t e = go (same (f t) (just_before f t)) refl e
  where
    go : (b : Bool) → same (f t) (just_before f t) ≡ b → cond b None (Some (f t)) ≡ None → f t ≡ just_before f t
    go true h e = same_is (f t) (just_before f t) h
    go false h e = cc

-- one time more, or nothing more past the horizon
longer : (f : ℕ → Logic) (s d horizon : ℕ) → changes f (min (suc s + d) (suc horizon)) ≡ changes f (min (s + d) (suc horizon)) ++ cond (leb (s + d) horizon) (change_at f (s + d)) []
unfolding changes
longer f s d horizon = elim (le_cases (s + d) horizon) [
  | inl l ↦ (let e : min (suc s + d) (suc horizon) ≡ suc (s + d) = omega arith in let e2 : min (s + d) (suc horizon) ≡ s + d = omega arith in
      let b : leb (s + d) horizon ≡ true = grind (arith, common_steps) in rw (e, e2, b) refl)
  | inr g ↦ (let e : min (suc s + d) (suc horizon) ≡ suc horizon = omega arith in let e2 : min (s + d) (suc horizon) ≡ suc horizon = omega arith in
      let b : leb (s + d) horizon ≡ false = grind (arith, common_steps) in rw (e, e2, b) (sym (append-nil (changes f (suc horizon)))))
]

-- the change of a function one delay after a time, if it isn't past the horizon
abbrev pub added : (ℕ → Logic) → ℕ → ℕ → List Change
added f t horizon = cond (leb t horizon) (change_at f t) []

pub quiet_change : (f : ℕ → Logic) (s d horizon : ℕ) → 0 < d → ((t : ℕ) → s + d ≡ suc t → f (suc t) ≡ f t) → added f (s + d) horizon ≡ []
quiet_change f s d horizon h same_there =
    let e : s + d ≡ suc (pred (s + d)) = omega arith in
    elim (leb (s + d) horizon) as (λ b. cond b (change_at f (s + d)) [] ≡ []) [
      | true ↦ rw e (rw (same_there (pred (s + d)) e, same_refl) refl)
      | false ↦ refl
    ]

pub before_grown : (f : ℕ → Logic) (s d horizon : ℕ) → before_time (suc s + d) (changes f (horizon + 1)) ≡ before_time (s + d) (changes f (horizon + 1)) ++ added f (s + d) horizon
before_grown f s d horizon =
    let e : horizon + 1 ≡ suc horizon = omega arith in
    rw e (before_time-changes f (suc s + d) (suc horizon) ∙ (longer f s d horizon ∙ ap (λ (xs : List Change). xs ++ added f (s + d) horizon) (sym (before_time-changes f (s + d) (suc horizon)))))

module _ (source : ℕ → Source) (timed : (n : ℕ) → IsTimed (source n)) where
  -- sources by themselves, with what two sets of effective values give, which agree below a time
  joined : (at at' : ℕ → ℕ → Option Logic) (u : ℕ) → ((n t : ℕ) → t < u → at n t ≡ at' n t) →
      Joined source source (given at) (given at') (λ i. IsDriven (source i)) (λ i. source i ≡ Outside) u
  joined at at' u h = record {
    same_source = λ i o. refl;
    over = λ i o. over_all (λ k. IsDriven (source k) ⊎ (source k ≡ Outside)) (λ k. driven_or_not (source k)) (source i) o (timed i);
    agree = λ i s e l. outside_is source (given at) i s e ∙ (held-agree (at i) (at' i) u (h i) s l ∙ sym (outside_is source (given at') i s e));
  }

  -- values depend on the effective values below a time alone, up to one delay past it
  pub values_agree : (at at' : ℕ → ℕ → Option Logic) (u : ℕ) → ((n t : ℕ) → t < u → at n t ≡ at' n t) →
      (n t : ℕ) → IsDriven (source n) → t < u + source_delay (source n) → value source (given at) n t ≡ value source (given at') n t
  values_agree at at' u h n t d l =
      same_values source source (given at) (given at') (λ i. IsDriven (source i)) (λ i. source i ≡ Outside) u (joined at at' u h) n t d l

  content_outside : (at : ℕ → ℕ → Option Logic) (n m : ℕ) → source n ≡ Outside → (before source (given at) m).content n ≡ X
  unfolding history
  content_outside at n zero e = rw e refl
  content_outside at n (suc m) e = rw e refl

  -- and so do the moments before it
  pub moments_agree : (at at' : ℕ → ℕ → Option Logic) (u : ℕ) → ((n t : ℕ) → t < u → at n t ≡ at' n t) →
      (m n : ℕ) → m ≤ u → ((before source (given at) m).value n ≡ (before source (given at') m).value n) × ((before source (given at) m).content n ≡ (before source (given at') m).content n)
  moments_agree at at' u h m n l =
      let a = same_before source source (given at) (given at') (λ i. IsDriven (source i)) (λ i. source i ≡ Outside) u (joined at at' u h) m in (
        a.values n (driven_or_not (source n)) l,
        elim (driven_or_not (source n)) [
          | inl d ↦ a.contents n d l
          | inr e ↦ content_outside at n m e ∙ sym (content_outside at' n m e)
        ],
      )

  -- (rollback) Where the effective values keep below a time that isn't past the mark, the logs are cut there.
  pub run_log-cut : (at at' : ℕ → ℕ → Option Logic) (mark u horizon n : ℕ) → u ≤ mark → ((n t : ℕ) → t < u → at n t ≡ at' n t) →
      before_time (u + source_delay (source n)) (run_log source at mark horizon n) ≡ run_log source at' u horizon n
  unfolding changes
  run_log-cut at at' mark u horizon n l h = go (is_driven (source n)) refl
    where
      f : ℕ → Logic
      f = value source (given at) n

      g : ℕ → Logic
      g = value source (given at') n

      go : (b : Bool) → is_driven (source n) ≡ b →
          before_time (u + source_delay (source n)) (cond b (before_time (mark + source_delay (source n)) (changes (value source (given at) n) (horizon + 1))) [])
          ≡ cond b (before_time (u + source_delay (source n)) (changes (value source (given at') n) (horizon + 1))) []
      go false e = refl
      go true e =
          let d : ℕ = source_delay (source n) in
          let ends : min (u + source_delay (source n)) (min (mark + source_delay (source n)) (horizon + 1)) ≡ min (u + source_delay (source n)) (horizon + 1) = omega arith in
          ap (before_time (u + source_delay (source n))) (before_time-changes (value source (given at) n) (mark + source_delay (source n)) (horizon + 1))
          ∙ (before_time-changes (value source (given at) n) (u + source_delay (source n)) (min (mark + source_delay (source n)) (horizon + 1))
          ∙ (ap (changes (value source (given at) n)) ends
          ∙ (changes-agree (value source (given at) n) (value source (given at') n) (min (u + source_delay (source n)) (horizon + 1)) (λ t k. values_agree at at' u h n t e (omega arith))
          ∙ sym (before_time-changes (value source (given at') n) (u + source_delay (source n)) (horizon + 1)))))

  pub just_before_is : (at : ℕ → ℕ → Option Logic) (n s : ℕ) → just_before (value source (given at) n) s ≡ (before source (given at) s).value n
  unfolding history
  just_before_is at n zero = refl
  just_before_is at n (suc t) = refl

  outside_steady : (at : ℕ → ℕ → Option Logic) (n s : ℕ) → source n ≡ Outside → at n s ≡ None → value source (given at) n s ≡ (before source (given at) s).value n
  unfolding history
  outside_steady at n zero e none = outside_is source (given at) n zero e ∙ held-none (at n) zero none
  outside_steady at n (suc t) e none = outside_is source (given at) n (suc t) e ∙ (held-none (at n) (suc t) none ∙ sym (outside_is source (given at) n t e))

  -- what a log holds at a time below one delay past its mark
  pub run_log-pair : (at : ℕ → ℕ → Option Logic) (mark horizon n t : ℕ) → IsDriven (source n) → t < mark + source_delay (source n) → t ≤ horizon →
      pair_at (run_log source at mark horizon n) t ≡ change_option (value source (given at) n) t
  run_log-pair at mark horizon n t d l k =
      rw d (ap (λ (xs : List Change). pair_at xs t) (before_time-changes (value source (given at) n) (mark + source_delay (source n)) (horizon + 1))
      ∙ pair_at-changes (value source (given at) n) (min (mark + source_delay (source n)) (horizon + 1)) t (omega arith))

  -- nothing past the horizon
  pub run_log-past : (at : ℕ → ℕ → Option Logic) (mark horizon n t : ℕ) → horizon < t → pair_at (run_log source at mark horizon n) t ≡ None
  run_log-past at mark horizon n t l = go (is_driven (source n))
    where
      go : (b : Bool) → pair_at (cond b (before_time (mark + source_delay (source n)) (changes (value source (given at) n) (horizon + 1))) []) t ≡ None
      go false = refl
      go true = ap (λ (xs : List Change). pair_at xs t) (before_time-changes (value source (given at) n) (mark + source_delay (source n)) (horizon + 1))
          ∙ pair_at-late (value source (given at) n) (min (mark + source_delay (source n)) (horizon + 1)) t (omega arith)

  driven_steady : (at : ℕ → ℕ → Option Logic) (mark horizon n t : ℕ) → IsDriven (source n) → t ≤ mark → t ≤ horizon →
      pair_at (run_log source at mark horizon n) t ≡ None → value source (given at) n t ≡ (before source (given at) t).value n
  driven_steady at mark horizon n t d l k none =
      let pos : 0 < source_delay (source n) = delayed (source n) (timed n) d in
      change_none (value source (given at) n) t (sym (run_log-pair at mark horizon n t d (omega arith) k) ∙ none) ∙ just_before_is at n t

  -- what happens to a net at a time, by a log or by its effective values
  abbrev pub run_news : (ℕ → ℕ → Option Logic) → ℕ → ℕ → ℕ → ℕ → Option Logic
  run_news at mark horizon n t = cond (is_driven (source n)) (pair_at (run_log source at mark horizon n) t) (at n t)

  -- a net to which nothing happens keeps its value
  pub steady : (at : ℕ → ℕ → Option Logic) (mark horizon n t : ℕ) → t ≤ mark → t ≤ horizon → run_news at mark horizon n t ≡ None →
      value source (given at) n t ≡ (before source (given at) t).value n
  steady at mark horizon n t l k none = elim (driven_or_not (source n)) [
    | inl d ↦ driven_steady at mark horizon n t d l k (sym (cond-true (is_driven (source n)) (pair_at (run_log source at mark horizon n) t) (at n t) d) ∙ none)
    | inr e ↦ outside_steady at n t e (rw e at none)
  ]

  -- (one step) a log at one mark more
  pub run_log-step : (at : ℕ → ℕ → Option Logic) (s horizon n : ℕ) → IsDriven (source n) →
      run_log source at (suc s) horizon n ≡ run_log source at s horizon n ++ added (value source (given at) n) (s + source_delay (source n)) horizon
  run_log-step at s horizon n d = rw d (before_grown (value source (given at) n) s (source_delay (source n)) horizon)

  -- (quiet) Where the nets that the sources use keep their values at a time, going past it changes no log.
  pub run_log-quiet : (at : ℕ → ℕ → Option Logic) (s horizon : ℕ) (N : ℕ → Type 0) → ((n : ℕ) → IsDriven (source n) → IsOver N (source n)) →
      ((i : ℕ) → N i → value source (given at) i s ≡ (before source (given at) s).value i) →
      (n : ℕ) → run_log source at (suc s) horizon n ≡ run_log source at s horizon n
  run_log-quiet at s horizon N over keeps n = elim (driven_or_not (source n)) [
    | inl d ↦ run_log-step at s horizon n d
        ∙ (ap (λ (xs : List Change). run_log source at s horizon n ++ xs)
        (quiet_change (value source (given at) n) s (source_delay (source n)) horizon (delayed (source n) (timed n) d)
        (λ t e. quiet_value source (given at) N s keeps n t (over n d) e))
        ∙ append-nil (run_log source at s horizon n))
    | inr e ↦ rw e refl
  ]
