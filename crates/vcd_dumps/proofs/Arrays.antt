-- Lines in arrays.
use Rattle.std.proofs.Common.{◌≡◌, ℕ, zero, suc, ◌-◌, ◌<◌, ◌≤◌, List, [], ◌∷◌, length, drop, refl, ap, ◌∙◌, arith}
use Rattle.std.proofs.Math.ListN.{set}

-- from a byte that was written on
drop_set : (xs : List ℕ) (k v : ℕ) → k < length xs → drop k (set xs k v) ≡ v ∷ drop (suc k) xs
drop_set [] k v h = absurd (omega arith)
drop_set (x ∷ xs) zero v h = refl
drop_set (x ∷ xs) (suc k) v h = drop_set xs k v (omega arith)

-- a byte before what stands at the end
pub drop_before : (xs : List ℕ) (start v : ℕ) (ys : List ℕ) → 1 ≤ start → start ≤ length xs → drop start xs ≡ ys → drop (start - 1) (set xs (start - 1) v) ≡ v ∷ ys
drop_before xs zero v ys some within e = absurd (omega arith)
drop_before xs (suc k) v ys some within e =
    let at : suc k - 1 ≡ k = omega arith in
    rw at (drop_set xs k v (omega arith) ∙ ap (λ (l : List ℕ). v ∷ l) e)
