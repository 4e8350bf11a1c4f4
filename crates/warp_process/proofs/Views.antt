-- What follows from the law of a block.
use Rattle.std.proofs.Common.{◌≡◌, ℕ, ◌<◌, ◌&&◌, ◌==◌, true, false, cond, Option, Some, None, List, [], ◌∷◌, length, get_or, inl, inr, refl, ap, sym, ◌∙◌, subst, arith, is_some}
use Rattle.std.specs.List.{list_any, AllByRecursion}
use Rattle.std.proofs.lemmas.Bool.{cond-false, false_from_ne_true, and_from, or_left, or_right, eq-eqb, true≢false}
use Rattle.std.proofs.lemmas.List.Folds.{list_any_at}
use Rattle.std.proofs.lemmas.List.Elements.{recursion_from_All}
use Rattle.gate_values.specs.declared.logic.Logic.{Logic}
use Rattle.gate_values.specs.declared.logic.Change.{Change}
use Rattle.gate_values.specs.Behaviour.{Source, Outside, Gate, Flop, IsWellFormed}
use Rattle.gate_values.specs.Inner.Behaviour.{IsOver}
use Rattle.gate_values.specs.Changes.{pair_at}
use Rattle.warp_part.specs.Portion.{Portion, IsPortion, is_driven, uses, does_use, source_of, owns, is_used, slot_of, at_slot}
use Rattle.warp_process.specs.View.{View, log_of, effective_at, news_of, is_busy}
use Rattle.warp_process.specs.Lawful.{IsLawful, lawful_log}
use Rattle.warp_part.proofs.Slots.{slot_is, of_net-map}
use Rattle.warp_process.proofs.Running.{IsTimed, IsDriven, run_log, run_news, driven_or_not}

timed_from : (s : Source) → IsWellFormed s → IsTimed s
timed_from Outside w = tt
timed_from (Gate kind delay inputs) w = w.0
timed_from (Flop delay d c i) w = w

-- a net that a gate of the block reads
abbrev pub IsUsed : Portion → ℕ → Type 0
IsUsed p i = (is_used p i ≡ true) × (is_some (slot_of p.nets i) ≡ true)

over_uses : (p : Portion) (N : ℕ → Type 0) (s : Source) → IsWellFormed s → IsDriven s → AllByRecursion N (uses s) → IsOver N s
over_uses p N Outside w d u = cc
over_uses p N (Gate kind delay inputs) w d u = (w.0, u)
over_uses p N (Flop delay d c i) w e u = (w, u.0, u.1.0)

-- each net that a source uses is used
each_use : (p : Portion) (us : List ℕ) → ((u : ℕ) → list_any (λ x. x == u) us ≡ true → is_used p u ≡ true) → AllByRecursion (λ u. is_some (slot_of p.nets u) ≡ true) us → AllByRecursion (IsUsed p) us
each_use p [] h a = tt
each_use p (u ∷ us) h a =
    ((h u (or_left (u == u) (list_any (λ x. x == u) us) (eq-eqb u u refl)), a.0), each_use p us (λ x e. h x (or_right (u == x) (list_any (λ y. y == x) us) e)) a.1)

module _ (p : Portion) (is : IsPortion p) where
  at_place : (P : Source → Type 0) → P Outside → ((i : ℕ) → i < length p.nets → IsDriven (get_or p.sources i Outside) → P (get_or p.sources i Outside)) → (n : ℕ) → P (source_of p n)
  at_place P none some n = go (slot_of p.nets n) refl
    where
      go : (o : Option ℕ) → slot_of p.nets n ≡ o → P (at_slot p.sources Outside o)
      go None e = none
      go (Some i) e = elim (driven_or_not (get_or p.sources i Outside)) [
        | inl d ↦ some i (slot_is p.nets n i e).0 d
        | inr e2 ↦ subst P (sym e2) none
      ]

  -- a source is well formed
  pub well_formed : (n : ℕ) → IsDriven (source_of p n) → IsWellFormed (source_of p n)
  well_formed n = at_place (λ s. IsDriven s → IsWellFormed s) (λ d. cc) (λ i l d _. (is.driven i l d).0) n

  -- every delay is at least 1
  pub timed : (n : ℕ) → IsTimed (source_of p n)
  timed n = at_place IsTimed tt (λ i l d. timed_from (get_or p.sources i Outside) (is.driven i l d).0) n

  -- a source reads nets that are used
  pub over_used : (n : ℕ) → IsDriven (source_of p n) → IsOver (IsUsed p) (source_of p n)
  over_used n =
      at_place (λ s. IsDriven s → IsOver (IsUsed p) s) (λ d. cc)
      (λ i l d _. over_uses p (IsUsed p) (get_or p.sources i Outside) (is.driven i l d).0 d
      (each_use p (uses (get_or p.sources i Outside))
      (λ u e. list_any_at (does_use u) p.sources i Outside (omega (arith, is.sources, l)) e)
      (recursion_from_All (λ u. is_some (slot_of p.nets u) ≡ true) (uses (get_or p.sources i Outside)) (is.driven i l d).2))) n

module _ (v : View) (is : IsLawful v) where
  abbrev source : ℕ → Source
  source = source_of v.part

  -- a net that isn't among the block's is set outside
  lawful_log-other : (n : ℕ) → slot_of v.part.nets n ≡ None → lawful_log v n ≡ []
  lawful_log-other n e = cond-false (owns v.part n) _ [] (ap (λ o. is_driven (at_slot v.part.sources Outside o)) e)

  -- the log of each net
  pub log_of-lawful : (n : ℕ) → log_of v n ≡ run_log source (effective_at v) v.mark v.horizon n
  log_of-lawful n = ap (λ (logs : List (List Change)). at_slot logs [] (slot_of v.part.nets n)) is.logs ∙ of_net-map v.part.nets (lawful_log v) [] n (lawful_log-other n)

  -- what happens to a net
  pub news_of-run : (n t : ℕ) → news_of v n t ≡ run_news source (timed v.part is.part) (effective_at v) v.mark v.horizon n t
  news_of-run n t = ap (λ (log : List Change). cond (owns v.part n) (pair_at log t) (effective_at v n t)) (log_of-lawful n)

  no_news : (n t : ℕ) → is_some (news_of v n t) ≡ false → news_of v n t ≡ None
  no_news n t e = go (news_of v n t) e
    where
      go : (o : Option Logic) → is_some o ≡ false → o ≡ None
      go None e = refl
      go (Some x) e = cc

  -- at a time that isn't busy nothing happens to a net that is used
  pub quiet_news : (n t : ℕ) → ¬ (is_busy v t ≡ true) → IsUsed v.part n → news_of v n t ≡ None
  quiet_news n t quiet used = go (slot_of v.part.nets n) refl
    where
      go : (o : Option ℕ) → slot_of v.part.nets n ≡ o → news_of v n t ≡ None
      go None e = absurd (true≢false (sym used.1 ∙ ap is_some e))
      go (Some i) e =
          let at = slot_is v.part.nets n i e in
          no_news n t (false_from_ne_true (is_some (news_of v n t)) (λ some. quiet
          (list_any_at (λ k. is_used v.part k && is_some (news_of v k t)) v.part.nets i 0 at.0
          (subst (λ (k : ℕ). (is_used v.part k && is_some (news_of v k t)) ≡ true) (sym at.1) (and_from (is_used v.part n) (is_some (news_of v n t)) used.0 some)))))
