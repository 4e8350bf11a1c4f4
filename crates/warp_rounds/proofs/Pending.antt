-- The least time at which something is left.
use Rattle.std.proofs.Common.{◌≡◌, ℕ, min, ◌+◌, ◌<◌, ◌≤◌, ◌⊎◌, inl, inr, List, [], ◌∷◌, ◌++◌, length, take, get_or, refl, sym, ap, ◌∙◌, subst, arith, length-append}
use Rattle.std.specs.Prelude.{Option, Some, None}
use Rattle.std.specs.List.{Any}
use Rattle.std.proofs.Math.Seq.{get_or-append_seam}
use Rattle.std.proofs.lemmas.List.{take_all, take_more, get_or_append_left}
use Rattle.std.proofs.lemmas.List.Quantifiers.{Any-push}
use Rattle.warp_process.specs.declared.message.Message.{Message}
use Rattle.warp_process.specs.View.{View, IsLeast}
use Rattle.warp_process.specs.Inner.View.{earlier_of}
use Rattle.warp_rounds.specs.Turn.{IsPending}

-- what some item of a list has, or one more item
Any-pushed : {X : Type 0} → (P : X → Type 0) (xs : List X) (y : X) → Any P (xs ++ y ∷ []) → Any P xs ⊎ P y
Any-pushed {X} P xs y (k, x, within, is, holds) =
    elim (before_or_last k (length xs) (omega (arith, length-append xs (y ∷ [])))) [
      | inl before ↦ inl (k, x, before, sym (get_or_append_left xs (y ∷ []) x k before) ∙ is, holds)
      | inr last ↦ inr (subst P (sym is ∙ (ap (λ n. get_or (xs ++ y ∷ []) n x) last ∙ get_or-append_seam xs y [] x)) holds)
    ]
  where
    before_or_last : (k n : ℕ) → k < n + 1 → (k < n) ⊎ (k ≡ n)
    before_or_last k n h = grind arith

Any-kept : {X : Type 0} → (P : X → Type 0) (xs : List X) (y : X) → Any P xs → Any P (xs ++ y ∷ [])
Any-kept P xs y (k, x, within, is, holds) = (k, x, omega (arith, length-append xs (y ∷ [])), get_or_append_left xs (y ∷ []) x k within ∙ is, holds)

-- one number more
least_with : (P Q : ℕ → Type 0) (least : Option ℕ) (k : ℕ) → ((t : ℕ) → Q t → P t ⊎ (k ≡ t)) → ((t : ℕ) → P t → Q t) → Q k → IsLeast P least →
    IsLeast Q (earlier_of least (Some k))
least_with P Q None k only kept has least =
    (has, λ u q. elim (only u q) [ inl p ↦ absurd (least u p) | inr is ↦ omega arith ])
least_with P Q (Some a) k only kept has least = (
  elim (lesser a k) [ inl first ↦ subst Q (sym first) (kept a least.0) | inr second ↦ subst Q (sym second) has ],
  λ u q. elim (only u q) [ inl p ↦ (let below = least.1 u p in omega arith) | inr is ↦ omega arith ],
)
  where
    lesser : (a b : ℕ) → (min a b ≡ a) ⊎ (min a b ≡ b)
    lesser a b = grind arith

pending_with : (v : View) (ms : List Message) (m : Message) (least : Option ℕ) → IsLeast (IsPending v ms) least →
    IsLeast (IsPending v (ms ++ m ∷ [])) (earlier_of least (Some m.time))
pending_with v ms m least h =
    least_with (IsPending v ms) (IsPending v (ms ++ m ∷ [])) least m.time
    (λ t q. elim q [
      | inl event ↦ inl (inl event)
      | inr told ↦ elim (Any-pushed (λ (n : Message). n.time ≡ t) ms m told) [ inl before ↦ inl (inr before) | inr last ↦ inr last ]
    ])
    (λ t p. elim p [ inl event ↦ inl event | inr told ↦ inr (Any-kept (λ (n : Message). n.time ≡ t) ms m told) ])
    (inr (Any-push (λ (n : Message). n.time ≡ m.time) ms m refl))
    h

-- one message more of a list
pub pending_more : (v : View) (ms : List Message) (i : ℕ) (d : Message) (least : Option ℕ) → i < length ms → IsLeast (IsPending v (take i ms)) least →
    IsLeast (IsPending v (take (i + 1) ms)) (earlier_of least (Some (get_or ms i d).time))
pending_more v ms i d least within h =
    subst (λ (list : List Message). IsLeast (IsPending v list) (earlier_of least (Some (get_or ms i d).time))) (sym (take_more ms i d within))
    (pending_with v (take i ms) (get_or ms i d) least h)

-- all of a list
pub pending_all : (v : View) (ms : List Message) (i : ℕ) (least : Option ℕ) → length ms ≤ i → IsLeast (IsPending v (take i ms)) least →
    IsLeast (IsPending v ms) least
pending_all v ms i least all h = subst (λ (list : List Message). IsLeast (IsPending v list) least) (take_all i ms all) h
