-- Sums over a list, and what holds of each item, as one item changes or one more comes.
use Rattle.std.proofs.Common.{◌≡◌, ◌≢◌, ℕ, zero, suc, ◌+◌, ◌≤◌, List, [], ◌∷◌, ◌++◌, set, sum_by, refl, sym, ap, arith, ⊎_elim, subst}
use Rattle.std.proofs.lemmas.List.Sums.{sum_by-cons}
use mathlib.Core.Option.{some, some-ne-none, some-injective}
use lib.ListN.{get_elem?}
use Rattle.atomic_table.proofs.Lists.{at_set, at_snoc}

module _ {V : Type 0} where
  pub sum_set : (f : V → ℕ) (items : List V) (i : ℕ) (v w : V) → get_elem? items i ≡ some v → sum_by f (set items i w) + f v ≡ sum_by f items + f w
  sum_set f [] i v w e = absurd (some-ne-none v (sym e))
  sum_set f (x ∷ xs) zero v w e = omega (arith, sum_by-cons f w xs, sum_by-cons f x xs, ap f (some-injective x v e))
  sum_set f (x ∷ xs) (suc i) v w e = omega (arith, sum_by-cons f x (set xs i w), sum_by-cons f x xs, sum_set f xs i v w e)

  pub sum_set_same : (f : V → ℕ) (items : List V) (i : ℕ) (v w : V) → get_elem? items i ≡ some v → f w ≡ f v → sum_by f (set items i w) ≡ sum_by f items
  sum_set_same f items i v w e same = omega (arith, sum_set f items i v w e)

  pub sum_le : (f g : V → ℕ) (items : List V) → ((i : ℕ) (v : V) → get_elem? items i ≡ some v → f v ≤ g v) → sum_by f items ≤ sum_by g items
  sum_le f g [] h = omega arith
  sum_le f g (x ∷ xs) h = omega (arith, sum_by-cons f x xs, sum_by-cons g x xs, h 0 x refl, sum_le f g xs (λ i v e. h (suc i) v e))

  pub part_le : (f : V → ℕ) (items : List V) (i : ℕ) (v : V) → get_elem? items i ≡ some v → f v ≤ sum_by f items
  part_le f [] i v e = absurd (some-ne-none v (sym e))
  part_le f (x ∷ xs) zero v e = omega (arith, sum_by-cons f x xs, ap f (some-injective x v e))
  part_le f (x ∷ xs) (suc i) v e = omega (arith, sum_by-cons f x xs, part_le f xs i v e)

  -- where g is 0 in sum, and f is 0 wherever g is, f is 0 in sum
  sum_none : (g f : V → ℕ) (items : List V) → sum_by g items ≡ 0 → ((i : ℕ) (u : V) → get_elem? items i ≡ some u → g u ≡ 0 → f u ≡ 0) → sum_by f items ≡ 0
  sum_none g f [] z h = refl
  sum_none g f (x ∷ xs) z h =
      let none : g x ≡ 0 = omega (arith, sum_by-cons g x xs) in let others : sum_by g xs ≡ 0 = omega (arith, sum_by-cons g x xs) in
      omega (arith, sum_by-cons f x xs, h 0 x refl none, sum_none g f xs others (λ i u e. h (suc i) u e))

  -- where one item has all of g, and f is 0 wherever g is, it has all of f
  pub sum_alone : (g f : V → ℕ) (items : List V) (i : ℕ) (v : V) → get_elem? items i ≡ some v → sum_by g items ≡ g v
      → ((j : ℕ) (u : V) → get_elem? items j ≡ some u → g u ≡ 0 → f u ≡ 0) → sum_by f items ≡ f v
  sum_alone g f [] i v e all h = absurd (some-ne-none v (sym e))
  sum_alone g f (x ∷ xs) zero v e all h = let is = some-injective x v e in
      let others : sum_by g xs ≡ 0 = omega (arith, sum_by-cons g x xs, ap g is) in
      omega (arith, sum_by-cons f x xs, ap f is, sum_none g f xs others (λ i u at. h (suc i) u at))
  sum_alone g f (x ∷ xs) (suc i) v e all h =
      let part = part_le g xs i v e in let none : g x ≡ 0 = omega (arith, sum_by-cons g x xs) in
      let others : sum_by g xs ≡ g v = omega (arith, sum_by-cons g x xs) in
      omega (arith, sum_by-cons f x xs, h 0 x refl none, sum_alone g f xs i v e others (λ j u at. h (suc j) u at))

  pub each_set : (P : V → Type 0) (items : List V) (i : ℕ) (w : V) → P w → ((j : ℕ) (u : V) → get_elem? items j ≡ some u → P u) → (j : ℕ) (u : V) → get_elem? (set items i w) j ≡ some u → P u
  each_set P items i w here others j u e = ⊎_elim (λ (t : (j ≡ i) × (w ≡ u)). subst P t.1 here) (λ (t : (j ≢ i) × (get_elem? items j ≡ some u)). others j u t.1) (at_set items i j w u e)

  pub each_push : (P : V → Type 0) (items : List V) (w : V) → P w → ((j : ℕ) (u : V) → get_elem? items j ≡ some u → P u) → (j : ℕ) (u : V) → get_elem? (items ++ w ∷ []) j ≡ some u → P u
  each_push P items w last others j u e = ⊎_elim (others j u) (λ (t : w ≡ u). subst P t last) (at_snoc items w u j e)

  pub set_at : (items : List V) (i : ℕ) (v w : V) → get_elem? items i ≡ some v → get_elem? (set items i w) i ≡ some w
  set_at [] i v w e = absurd (some-ne-none v (sym e))
  set_at (x ∷ xs) zero v w e = refl
  set_at (x ∷ xs) (suc i) v w e = set_at xs i v w e

  pub each_one : (P : V → Type 0) (w : V) → P w → (j : ℕ) (u : V) → get_elem? (w ∷ []) j ≡ some u → P u
  each_one P w here zero u e = subst P (some-injective w u e) here
  each_one P w here (suc j) u e = absurd (some-ne-none u (sym e))
