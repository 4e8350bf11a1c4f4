-- Word 1 as hands change.
use Rattle.std.proofs.Common.{◌≡◌, ◌≢◌, ℕ, ◌≤◌, inl, inr, min, refl, List, [], ◌∷◌, ◌++◌, set, sym, ap, ◌∙◌, subst, arith, ⊎_elim}
use mathlib.Core.Option.{some, some-injective}
use mathlib.Core.Logic.{dite}
use native.Mathlib.Decide.{dec_le, ℕ_discrete}
use lib.ListN.{get_elem?}
use Rattle.atomic_table.proofs.Lists.{set_else, at_longer}
use Rattle.warp_rounds.specs.declared.hand.Hand.{Hand}
use Rattle.warp_rounds.specs.Words.{never}
use Rattle.warp_rounds.specs.Inner.Rule.{after_report, both_hands, spent_hand, IsReached, IsLeastTime}
use Rattle.warp_rounds.proofs.Sums.{each_set, each_push, each_one, set_at}

-- the hand at a place has a time
abbrev HasTime : List Hand → ℕ → Type 0
HasTime hands m = (i : ℕ) × (h : Hand) × (get_elem? hands i ≡ some h) × (h.least ≡ m)

-- what stands at a place is what was found there
found : (hands : List Hand) (i j : ℕ) (v u : Hand) → get_elem? hands i ≡ some v → j ≡ i → get_elem? hands j ≡ some u → v ≡ u
found hands i j v u at same there = some-injective v u (sym at ∙ subst (λ k. get_elem? hands k ≡ some u) same there)

-- a time that a hand had is still had, where the changed hand keeps it
reached_set : (hands : List Hand) (i : ℕ) (v w : Hand) (m : ℕ) → get_elem? hands i ≡ some v → (v.least ≡ m → w.least ≡ m) → IsReached m hands → IsReached m (set hands i w)
reached_set hands i v w m at keeps = ⊎_elim (λ none. inl none) (λ (t : HasTime hands m). dite (ℕ_discrete t.0 i)
    (λ here. inr (i, w, set_at hands i v w at, keeps (ap (λ (h : Hand). h.least) (found hands i t.0 v t.1 at here t.2) ∙ t.3)))
    (λ else. inr (t.0, t.1, set_else hands i t.0 w else ∙ t.2, t.3)))

pub time_set : (least : ℕ) (hands : List Hand) (i : ℕ) (v w : Hand) → get_elem? hands i ≡ some v → w.least ≡ v.least → IsLeastTime least hands → IsLeastTime least (set hands i w)
time_set least hands i v w at same time = record {
  top = time.top;
  below = each_set (λ (h : Hand). least ≤ h.least) hands i w (omega (arith, time.below i v at)) time.below;
  reached = reached_set hands i v w least at (λ is. same ∙ is) time.reached;
}

pub time_push : (least : ℕ) (hands : List Hand) (w : Hand) → w.least ≡ never → IsLeastTime least hands → IsLeastTime least (hands ++ w ∷ [])
time_push least hands w none time = record {
  top = time.top;
  below = each_push (λ (h : Hand). least ≤ h.least) hands w (omega (arith, time.top)) time.below;
  reached = ⊎_elim (λ none. inl none) (λ (t : HasTime hands least). inr (t.0, t.1, at_longer hands (w ∷ []) t.0 t.1 t.2, t.3)) time.reached;
}

pub time_report : (least : ℕ) (hands : List Hand) (i : ℕ) (v : Hand) (t : ℕ) → get_elem? hands i ≡ some v → IsLeastTime least hands → IsLeastTime (min least t) (set hands i (after_report t v))
time_report least hands i v t at time =
    let w : Hand = after_report t v in let low = time.below i v at in record {
      top = omega (arith, time.top);
      below = each_set (λ (h : Hand). min least t ≤ h.least) hands i w (omega arith) (λ j h e. let b = time.below j h e in omega arith);
      reached = dite (dec_le least t)
          (λ later. let same : least ≡ min least t = omega arith in
          reached_set hands i v w (min least t) at (λ is. omega arith) (subst (λ m. IsReached m hands) same time.reached))
          (λ earlier. inr (i, w, set_at hands i v w at, omega arith));
    }

pub time_collect : (least : ℕ) (hands : List Hand) (i j : ℕ) (v w : Hand) → get_elem? hands i ≡ some v → get_elem? hands j ≡ some w → j ≢ i → IsLeastTime least hands
    → IsLeastTime least (set (set hands i (both_hands v w)) j spent_hand)
time_collect least hands i j v w at there apart time =
    let both : Hand = both_hands v w in let joined : List Hand = set hands i both in
    let b = time.below i v at in let c = time.below j w there in
    let still : get_elem? joined j ≡ some w = set_else hands i j both apart ∙ there in
    let here : get_elem? (set joined j spent_hand) i ≡ some both = set_else joined j i spent_hand (λ e. apart (sym e)) ∙ set_at hands i v both at in
    record {
      top = time.top;
      below = each_set (λ (h : Hand). least ≤ h.least) joined j spent_hand time.top (each_set (λ (h : Hand). least ≤ h.least) hands i both (omega arith) time.below);
      reached = dite (ℕ_discrete both.least least) (λ is. inr (i, both, here, is))
          (λ other. reached_set joined j w spent_hand least still (λ is. absurd (other (omega arith)))
          (reached_set hands i v both least at (λ is. omega arith) time.reached));
    }

pub time_opening : (h : Hand) → h.least ≡ never → IsLeastTime never (h ∷ [])
time_opening h none = record {
  top = omega arith;
  below = each_one (λ (h : Hand). never ≤ h.least) h (omega arith);
  reached = inl refl;
}
