-- Nets and their places.
use Rattle.std.proofs.Common.{◌≡◌, ℕ, ◌<◌, ◌==◌, cond, not, nat_lt, Option, Some, None, List, map, length, get_or, refl, ap, sym, ◌∙◌, arith}
use Rattle.std.specs.List.{prefix_len}
use Rattle.std.specs.List.Sorted.{IsStrictlyIncreasing}
use Rattle.std.proofs.lemmas.Bool.{eqb-true, eq-eqb, ne_eqb, lt-ltb}
use Rattle.std.proofs.lemmas.List.{get_or-map}
use Rattle.std.proofs.lemmas.List.Quantifiers.{position-Some}
use Rattle.std.proofs.lemmas.List.Sums.{prefix_len_is}
use Rattle.std.proofs.lemmas.List.Kept.{AllPairs-from_increasing}
use Rattle.warp_part.specs.Portion.{slot_of, at_slot, of_net}

-- what a place says of its net
pub slot_is : (nets : List ℕ) (n i : ℕ) → slot_of nets n ≡ Some i → (i < length nets) × (get_or nets i 0 ≡ n)
slot_is nets n i e =
    let h = position-Some (λ m. m == n) nets i 0 e in
    (h.0, eqb-true (get_or nets i 0) n h.1)

-- the place of the net at a place
pub slot_at : (nets : List ℕ) (i : ℕ) → IsStrictlyIncreasing nets → i < length nets → slot_of nets (get_or nets i 0) ≡ Some i
slot_at nets i up h =
    let apart = AllPairs-from_increasing nets up in
    let e : prefix_len (λ m. not (m == get_or nets i 0)) nets ≡ i =
    prefix_len_is (λ m. not (m == get_or nets i 0)) nets i 0 (omega arith)
    (λ k l. ap not (ne_eqb (get_or nets k 0) (get_or nets i 0) (λ same. absurd (omega (arith, apart k i 0 l h)))))
    (λ _. ap not (eq-eqb (get_or nets i 0) (get_or nets i 0) refl)) in
    ap (λ k. cond (nat_lt k (length nets)) (Some k) None) e ∙ ap (λ b. cond b (Some i) None) (lt-ltb i (length nets) h)

-- what stands at the place of the net at a place
pub of_net-at : {A : Type 0} (nets : List ℕ) (xs : List A) (d : A) (i : ℕ) → IsStrictlyIncreasing nets → i < length nets → of_net nets xs d (get_or nets i 0) ≡ get_or xs i d
of_net-at nets xs d i up h = ap (at_slot xs d) (slot_at nets i up h)

-- a list that has what a function gives of each net
pub of_net-map : {A : Type 0} (nets : List ℕ) (f : ℕ → A) (d : A) (n : ℕ) → (slot_of nets n ≡ None → f n ≡ d) → of_net nets (map f nets) d n ≡ f n
of_net-map nets f d n other = go (slot_of nets n) refl
  where
    go : (o : Option ℕ) → slot_of nets n ≡ o → at_slot (map f nets) d o ≡ f n
    go None e = sym (other e)
    go (Some i) e =
        let is = slot_is nets n i e in
        get_or-map f nets i 0 d is.0 ∙ ap f is.1
