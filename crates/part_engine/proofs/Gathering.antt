-- Words that are gathered place by place.
use Rattle.std.proofs.Common.{◌≡◌, ◌≢◌, ◌∙◌, ℕ, suc, ◌<◌, ◌++◌, ◌==◌, ◌||◌, inl, inr, Bool, true, false, cond, Option, Some, None, List, [], ◌∷◌, length, get_or, refl, ap, sym, subst, arith}
use Rattle.std.specs.List.{flat_map}
use Rattle.std.specs.List.Sorted.{IsStrictlyIncreasing}
use Rattle.std.proofs.lemmas.Bool.{cases_eq, eq-eqb, ne_eqb}
use Rattle.std.proofs.lemmas.List.{append-nil, get_or_default}
use Rattle.std.proofs.lemmas.List.Elements.{filter-append}
use Rattle.std.proofs.lemmas.List.Folds.{list_any_none}
use Rattle.std.proofs.lemmas.List.Kept.{AllPairs-from_increasing}
use Rattle.gate_values.specs.declared.logic.Logic.{Logic}
use Rattle.gate_values.specs.Changes.{same}
use Rattle.warp_stores.specs.Words.{Move}
use Rattle.warp_stores.specs.Lists.{words_at}
use Rattle.place_moves.specs.Moves.{move_of}
use Rattle.warp_part.specs.Inner.Building.{has}
use Rattle.part_engine.specs.Inner.Bringing.{move_to}

-- ---- the words of one move

words_own : (place : ℕ) (from to : Logic) → words_at place (move_of place from to) ≡ move_of place from to
words_own place from to = go (same to from)
  where
    go : (b : Bool) → words_at place (cond b [] (record { place = place; before = from; after = to } ∷ [])) ≡ cond b [] (record { place = place; before = from; after = to } ∷ [])
    go true = refl
    go false = rw (eq-eqb place place refl) refl

words_other : (p place : ℕ) (from to : Logic) → place ≢ p → words_at p (move_of place from to) ≡ []
words_other p place from to n = go (same to from)
  where
    go : (b : Bool) → words_at p (cond b [] (record { place = place; before = from; after = to } ∷ [])) ≡ []
    go true = refl
    go false = rw (ne_eqb place p n) refl

pub to_own : (place : ℕ) (from : Logic) (to : Option Logic) → words_at place (move_to place from to) ≡ move_to place from to
to_own place from None = refl
to_own place from (Some to) = words_own place from to

pub to_other : (p place : ℕ) (from : Logic) (to : Option Logic) → place ≢ p → words_at p (move_to place from to) ≡ []
to_other p place from None n = refl
to_other p place from (Some to) n = words_other p place from to n

-- ---- ascending places

record Ascends (xs : List ℕ) : Type 0 where
  pairs : (i j : ℕ) → i < j → j < length xs → get_or xs i 0 < get_or xs j 0

Ascends-tail : (x : ℕ) (xs : List ℕ) → Ascends (x ∷ xs) → Ascends xs
Ascends-tail x xs h = record { pairs = λ i j less l. h.pairs (suc i) (suc j) (omega (arith, less)) (omega (arith, l)) }

not_again : (x : ℕ) (xs : List ℕ) → Ascends (x ∷ xs) → has xs x ≡ false
not_again x xs h =
    list_any_none (λ y. y == x) xs
    (λ k d l. ne_eqb (get_or xs k d) x (λ e. absurd (omega (arith, h.pairs 0 (suc k) (omega arith) (omega (arith, l)), get_or_default xs k d 0 l, e))))

module _ (f : ℕ → List Move) (own : (place : ℕ) → words_at place (f place) ≡ f place) (other : (p place : ℕ) → place ≢ p → words_at p (f place) ≡ []) where
  gathered_by : (places : List ℕ) → Ascends places → (p : ℕ) → words_at p (flat_map f places) ≡ cond (has places p) (f p) []
  gathered_by [] up p = refl
  gathered_by (x ∷ xs) up p =
      let rest : words_at p (flat_map f xs) ≡ cond (has xs p) (f p) [] = gathered_by xs (Ascends-tail x xs up) p in
      filter-append (λ (w : Move). w.place == p) (f x) (flat_map f xs)
      ∙ elim (cases_eq x p) [
        | inl e ↦
            (let none : has xs p ≡ false = subst (λ n. has xs n ≡ false) e (not_again x xs up) in
            let here : words_at p (f x) ≡ f p = subst (λ n. words_at n (f x) ≡ f n) e (own x) in
            ap (λ (ws : List Move). words_at p (f x) ++ ws) (rest ∙ ap (λ b. cond b (f p) []) none) ∙ append-nil (words_at p (f x)) ∙ here
            ∙ sym (ap (λ b. cond (b || has xs p) (f p) []) (eq-eqb x p e)))
        | inr n ↦
            (ap (λ (ws : List Move). ws ++ words_at p (flat_map f xs)) (other p x n) ∙ rest ∙ sym (ap (λ b. cond (b || has xs p) (f p) []) (ne_eqb x p n)))
      ]

  pub gathered : (places : List ℕ) → IsStrictlyIncreasing places → (p : ℕ) → words_at p (flat_map f places) ≡ cond (has places p) (f p) []
  gathered places up p = gathered_by places (record { pairs = λ i j less l. AllPairs-from_increasing places up i j 0 less l }) p
