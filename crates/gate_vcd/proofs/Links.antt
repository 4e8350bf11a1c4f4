-- The last place below another that passes a test.
use Rattle.std.proofs.Common.{◌≡◌, ℕ, zero, suc, ◌<◌, ◌≤◌, inl, inr, Bool, true, false, cond, List, [], ◌∷◌, ◌++◌, length, get_or, slice_get, Option, Some, None, refl, ap, sym, ◌∙◌, arith}
use Rattle.std.specs.Option.{option_map_or}
use Rattle.gate_vcd.specs.Inner.Known.{last_below}
use Rattle.net_waves.proofs.Compared.{cases_eq}

-- one more than a place, and 0 for none
abbrev pub rank : Option ℕ → ℕ
rank None = 0
rank (Some k) = suc k

-- what stands in a list that has one more behind
pub slice_get-front : {X : Type 0} (xs : List X) (x : X) (k : ℕ) → k < length xs → slice_get (xs ++ x ∷ []) k ≡ slice_get xs k
slice_get-front [] x k h = absurd (omega arith)
slice_get-front (y ∷ ys) x zero h = refl
slice_get-front (y ∷ ys) x (suc k) h = slice_get-front ys x k (omega arith)

pub slice_get-end : {X : Type 0} (xs : List X) (x : X) → slice_get (xs ++ x ∷ []) (length xs) ≡ Some x
slice_get-end [] x = refl
slice_get-end (y ∷ ys) x = slice_get-end ys x

pub slice_get-within : {X : Type 0} (xs : List X) (k : ℕ) (x : X) → slice_get xs k ≡ Some x → k < length xs
slice_get-within [] k x e = cc
slice_get-within (y ∷ ys) zero x e = omega arith
slice_get-within (y ∷ ys) (suc k) x e = let l : k < length ys = slice_get-within ys k x e in omega arith

pub slice_get-is : {X : Type 0} (xs : List X) (k : ℕ) (d : X) → k < length xs → slice_get xs k ≡ Some (get_or xs k d)
slice_get-is [] k d h = absurd (omega arith)
slice_get-is (y ∷ ys) zero d h = refl
slice_get-is (y ∷ ys) (suc k) d h = slice_get-is ys k d (omega arith)

module _ {X : Type 0} (p : X → Bool) where
  -- what stands behind doesn't matter
  pub last_below-front : (xs : List X) (x : X) (n : ℕ) → n ≤ length xs → last_below p (xs ++ x ∷ []) n ≡ last_below p xs n
  last_below-front xs x zero h = refl
  last_below-front xs x (suc n) h = rw (slice_get-front xs x n (omega arith), last_below-front xs x n (omega arith)) refl

  pub last_below-less : (xs : List X) (n k : ℕ) → last_below p xs n ≡ Some k → k < n
  last_below-less xs zero k e = cc
  last_below-less xs (suc n) k e = go (option_map_or p (slice_get xs n) false) e (last_below-less xs n k)
    where
      go : (b : Bool) → cond b (Some n) (last_below p xs n) ≡ Some k → (last_below p xs n ≡ Some k → k < n) → k < suc n
      go true h ih = let is : n ≡ k = cc in omega arith
      go false h ih = let l : k < n = ih h in omega arith

  -- it passes the test
  pub last_below-passes : (xs : List X) (n k : ℕ) (x : X) → last_below p xs n ≡ Some k → slice_get xs k ≡ Some x → p x ≡ true
  last_below-passes xs zero k x e at = cc
  last_below-passes xs (suc n) k x e at = go (option_map_or p (slice_get xs n) false) refl e (λ h. last_below-passes xs n k x h at)
    where
      go : (b : Bool) → option_map_or p (slice_get xs n) false ≡ b → cond b (Some n) (last_below p xs n) ≡ Some k → (last_below p xs n ≡ Some k → p x ≡ true) → p x ≡ true
      go true t h ih = let is : n ≡ k = cc in let own : option_map_or p (slice_get xs k) false ≡ true = ap (λ i. option_map_or p (slice_get xs i) false) (sym is) ∙ t in sym (ap (λ o. option_map_or p o false) at) ∙ own
      go false t h ih = ih h

  -- and stands in the list
  pub last_below-stands : (xs : List X) (n k : ℕ) → last_below p xs n ≡ Some k → k < length xs
  last_below-stands xs zero k e = cc
  last_below-stands xs (suc n) k e = go (slice_get xs n) refl e (last_below-stands xs n k)
    where
      by : (b : Bool) (x : X) → slice_get xs n ≡ Some x → cond b (Some n) (last_below p xs n) ≡ Some k → (last_below p xs n ≡ Some k → k < length xs) → k < length xs
      by true x s h ih = let is : n ≡ k = cc in let l : n < length xs = slice_get-within xs n x s in omega arith
      by false x s h ih = ih h

      go : (o : Option X) → slice_get xs n ≡ o → cond (option_map_or p o false) (Some n) (last_below p xs n) ≡ Some k → (last_below p xs n ≡ Some k → k < length xs) → k < length xs
      go None s h ih = ih h
      go (Some x) s h ih = by (p x) x s h ih

  -- none behind it does
  pub last_below-last : (xs : List X) (n : ℕ) (o : Option ℕ) (i : ℕ) (x : X) → last_below p xs n ≡ o → rank o ≤ i → i < n → slice_get xs i ≡ Some x → p x ≡ false
  last_below-last xs zero o i x e lo hi at = absurd (omega arith)
  last_below-last xs (suc n) o i x e lo hi at = go (option_map_or p (slice_get xs n) false) refl e (λ h l. last_below-last xs n o i x h lo l at)
    where
      go : (b : Bool) → option_map_or p (slice_get xs n) false ≡ b → cond b (Some n) (last_below p xs n) ≡ o → (last_below p xs n ≡ o → i < n → p x ≡ false) → p x ≡ false
      go true t h ih = let is : rank o ≡ suc n = ap rank (sym h) in absurd (omega arith)
      go false t h ih = elim (cases_eq i n) [
        | inl same ↦ sym (ap (λ q. option_map_or p q false) at) ∙ ap (λ j. option_map_or p (slice_get xs j) false) same ∙ t
        | inr other ↦ ih h (omega arith)
      ]

-- a test that gives the same has the same last place
pub last_below-same : {X : Type 0} (p q : X → Bool) (xs : List X) (n : ℕ) → ((x : X) → p x ≡ q x) → last_below p xs n ≡ last_below q xs n
last_below-same p q xs zero h = refl
last_below-same p q xs (suc n) h = rw (last_below-same p q xs n h) (ap (λ b. cond b (Some n) (last_below q xs n)) (at (slice_get xs n)))
  where
    at : (o : Option _) → option_map_or p o false ≡ option_map_or q o false
    at None = refl
    at (Some x) = h x
