-- When something happens next to a net.
use Rattle.std.proofs.Common.{◌≡◌, ℕ, zero, suc, ◌<◌, ◌≤◌, Bool, true, false, cond, List, [], ◌∷◌, length, get_or, Option, Some, None, IsSome, refl, ap, ◌∙◌, sym, subst, arith, nat_eq}
use Rattle.std.specs.List.Sorted.{IsPartitionPoint}
use Rattle.std.proofs.lemmas.Bool.{false≢true, eq-eqb, eqb-true, cond-false}
use Rattle.gate_values.specs.declared.logic.Logic.TheVariants.{X}
use Rattle.gate_values.specs.declared.logic.Change.{Change}
use Rattle.gate_values.specs.Behaviour.{Outside}
use Rattle.gate_values.specs.Changes.{pair_at}
use Rattle.warp_part.specs.Portion.{is_driven, owns}
use Rattle.warp_process.specs.View.{View, IsLeast, log_of, news_of, effective_at}
use Rattle.warp_process.specs.Lawful.{IsLawful}
use Rattle.warp_process.specs.Inner.Logs.{IsLog}
use Rattle.warp_process.proofs.Rising.{not_below, least_rising}
use Rattle.warp_process.proofs.Rows.{source_here, news_own, same_next}

abbrev time_of : Change → ℕ
time_of c = c.time

-- a change stands at its time
here_at : (cs : List Change) (i : ℕ) (d : Change) → i < length cs → IsSome (pair_at cs (get_or cs i d).time)
here_at [] i d l = absurd (omega arith)
here_at (c ∷ cs) zero d l = rw (eq-eqb c.time c.time refl) refl
here_at (c ∷ cs) (suc i) d l =
    elim (nat_eq c.time (get_or cs i d).time) as (λ b. IsSome (cond b (Some c.value) (pair_at cs (get_or cs i d).time))) [
      | true ↦ refl
      | false ↦ here_at cs i d (omega arith)
    ]

abbrev IsPlaced : List Change → ℕ → Type 0
IsPlaced cs t = (i : ℕ) × (i < length cs) × ((d : Change) → (get_or cs i d).time ≡ t)

found_step : (c : Change) (cs : List Change) (t : ℕ) → (IsSome (pair_at cs t) → IsPlaced cs t) → IsSome (pair_at (c ∷ cs) t) → IsPlaced (c ∷ cs) t
found_step c cs t later h = go (nat_eq c.time t) refl h
  where
    go : (b : Bool) → nat_eq c.time t ≡ b → IsSome (cond b (Some c.value) (pair_at cs t)) → IsPlaced (c ∷ cs) t
    go true e h = (0, omega arith, λ d. eqb-true c.time t e)
    go false e h = let r = later h in (suc r.0, omega (arith, r.1), r.2)

-- where there is a change, it has a place
found : (cs : List Change) (t : ℕ) → IsSome (pair_at cs t) → (i : ℕ) × (i < length cs) × ((d : Change) → (get_or cs i d).time ≡ t)
found [] t h = absurd (false≢true h)
found (c ∷ cs) t h = found_step c cs t (found cs t) h

-- the first change from a time on is the one after those before it
pub change_some : (cs : List Change) (t i : ℕ) (c : Change) → IsLog cs → IsPartitionPoint (λ e. e.time < t) (λ e. t ≤ e.time) cs i → i < length cs → c ≡ get_or cs i c
    → IsLeast (λ u. (t ≤ u) × IsSome (pair_at cs u)) (Some c.time)
change_some cs t i c log split l e =
    least_rising time_of (λ u. IsSome (pair_at cs u)) cs t i i c log.in_order split (found cs) (omega arith) l e
    (subst (λ (x : Change). IsSome (pair_at cs x.time)) (sym e) (here_at cs i c l)) (λ k d a b. absurd (omega arith))

pub change_none : (cs : List Change) (t i : ℕ) → IsPartitionPoint (λ e. e.time < t) (λ e. t ≤ e.time) cs i → length cs ≤ i → IsLeast (λ u. (t ≤ u) × IsSome (pair_at cs u)) None
change_none cs t i split l u h =
    let r = found cs u h.1 in
    let d : Change = record { time = 0; value = X } in
    let le : i ≤ r.0 = not_below time_of cs t i r.0 d split (subst (λ (k : ℕ). t ≤ k) (sym (r.2 d)) h.0) in
    absurd (omega (arith, r.1))

module _ (v : View) (is : IsLawful v) (i : ℕ) (in_nets : i < length v.part.nets) (from : ℕ) (r : Option ℕ) where
  -- of an own net, from its log
  pub news_logged : is_driven (get_or v.part.sources i Outside) ≡ true → IsLeast (λ t. (from ≤ t) × IsSome (pair_at (get_or v.logs i []) t)) r
      → IsLeast (λ t. (from ≤ t) × IsSome (news_of v (get_or v.part.nets i 0) t)) r
  news_logged own h = same_next from (pair_at (get_or v.logs i [])) (news_of v (get_or v.part.nets i 0)) r (λ t. sym (news_own v is i in_nets own t)) h

  -- of a net that is read, from its entries
  pub news_heard : is_driven (get_or v.part.sources i Outside) ≡ false → IsLeast (λ t. (from ≤ t) × IsSome (effective_at v (get_or v.part.nets i 0) t)) r
      → IsLeast (λ t. (from ≤ t) × IsSome (news_of v (get_or v.part.nets i 0) t)) r
  news_heard own h =
      same_next from (effective_at v (get_or v.part.nets i 0)) (news_of v (get_or v.part.nets i 0)) r
      (λ t. sym (cond-false (owns v.part (get_or v.part.nets i 0)) (pair_at (log_of v (get_or v.part.nets i 0)) t) (effective_at v (get_or v.part.nets i 0) t) (ap is_driven (source_here v is i in_nets) ∙ own))) h
