-- The first place of a list that passes a test.
use Rattle.std.proofs.Common.{◌≡◌, ℕ, suc, ◌+◌, ◌≤◌, Bool, true, false, not, cond, nat_lt, List, [], ◌∷◌, length, Some, None, unwrap_or, refl, ◌∙◌, arith}
use Rattle.std.proofs.lemmas.Bool.Decides.{nat_tests}
use Rattle.std.specs.List.{prefix_len, position}

pub not_not : (b : Bool) → not (not b) ≡ b
not_not true = refl
not_not false = refl

pub prefix_len-same : {X : Type 0} (p q : X → Bool) → ((x : X) → p x ≡ q x) → (xs : List X) → prefix_len p xs ≡ prefix_len q xs
prefix_len-same p q h [] = refl
prefix_len-same p q h (x ∷ xs) = rw (h x, prefix_len-same p q h xs) refl

pub prefix_len-le : {X : Type 0} (p : X → Bool) (xs : List X) → prefix_len p xs ≤ length xs
prefix_len-le p [] = omega arith
prefix_len-le p (x ∷ xs) = elim (p x) as (λ b. cond b (1 + prefix_len p xs) 0 ≤ suc (length xs)) [ true ↦ omega (arith, prefix_len-le p xs) | false ↦ omega arith ]

or_len : (n k : ℕ) → n ≤ k → unwrap_or (cond (nat_lt n k) (Some n) None) k ≡ n
or_len n k h = go (nat_lt n k) refl
  where
    go : (b : Bool) → nat_lt n k ≡ b → unwrap_or (cond b (Some n) None) k ≡ n
    go true e = refl
    go false e = let ge : k ≤ n = grind (arith, nat_tests, e) in omega arith

-- up to the first that doesn't pass, or to the end
pub position-or_len : {X : Type 0} (p q : X → Bool) → ((x : X) → not (p x) ≡ q x) → (xs : List X) → unwrap_or (position p xs) (length xs) ≡ prefix_len q xs
position-or_len p q h xs =
    or_len (prefix_len (λ x. not (p x)) xs) (length xs) (prefix_len-le (λ x. not (p x)) xs) ∙ prefix_len-same (λ x. not (p x)) q h xs
