-- What a search among ascending nets finds.
use Rattle.std.proofs.Common.{◌≡◌, ◌≢◌, ℕ, ◌<◌, ◌≤◌, ◌==◌, cond, not, nat_lt, Some, None, Result, Ok, Err, List, length, get_or, inl, inr, ap, sym, subst, ◌∙◌, arith, le-ltb}
use Rattle.std.specs.List.{prefix_len}
use Rattle.std.specs.Result.{MatchResult}
use Rattle.std.specs.Ordering.{nat_cmp}
use Rattle.std.specs.List.Sorted.{IsStrictlyIncreasing, IsBinarySearchResult}
use Rattle.std.proofs.lemmas.Bool.{ne_eqb, cases_lt}
use Rattle.std.proofs.lemmas.List.Sums.{prefix_len_is}
use Rattle.std.proofs.lemmas.List.Sorted.{searched}
use Rattle.std.proofs.lemmas.List.Kept.{AllPairs-from_increasing}
use Rattle.warp_part.specs.Portion.{slot_of}
use Rattle.warp_part.proofs.Slots.{slot_at}

-- a net that isn't among the nets has no place
pub slot_none : (nets : List ℕ) (n : ℕ) → ((k : ℕ) → k < length nets → get_or nets k 0 ≢ n) → slot_of nets n ≡ None
slot_none nets n other =
    let e : prefix_len (λ m. not (m == n)) nets ≡ length nets =
    prefix_len_is (λ m. not (m == n)) nets (length nets) 0 (omega arith)
    (λ k l. ap not (ne_eqb (get_or nets k 0) n (other k l)))
    (λ l. absurd (omega (arith, l))) in
    ap (λ k. cond (nat_lt k (length nets)) (Some k) None) e ∙ ap (λ b. cond b (Some (length nets)) None) (le-ltb (length nets) (length nets) (omega arith))

pub ascends : (nets : List ℕ) → IsStrictlyIncreasing nets → (i j : ℕ) → i ≤ j → j < length nets → get_or nets i 0 ≤ get_or nets j 0
ascends nets up i j le l =
    elim (cases_lt i j) [
      | inl less ↦ omega (arith, AllPairs-from_increasing nets up i j 0 less l)
      | inr more ↦ (let e : i ≡ j = omega arith in rw e (omega arith))
    ]

abbrev pub IsPlace : List ℕ → ℕ → Result ℕ ℕ → Type 0
IsPlace nets n r = MatchResult r (λ i. slot_of nets n ≡ Some i) (λ i. slot_of nets n ≡ None)

pub place_found : (nets : List ℕ) (n : ℕ) (r : Result ℕ ℕ) → IsStrictlyIncreasing nets → IsBinarySearchResult (λ y. nat_cmp y n) nets r → IsPlace nets n r
place_found nets n (Ok i) up h =
    let at = searched nets n (Ok i) h (ascends nets up) in
    subst (λ m. slot_of nets m ≡ Some i) at.1 (slot_at nets i up at.0)
place_found nets n (Err i) up h =
    let at = searched nets n (Err i) h (ascends nets up) in
    slot_none nets n (λ k l e. elim (cases_lt k i) [
      | inl less ↦ absurd (omega (arith, at.1 k less, e))
      | inr more ↦ absurd (omega (arith, at.2 k more l, e))
    ])

-- a net that stands at a place
pub place_there : (nets : List ℕ) (i n : ℕ) → IsStrictlyIncreasing nets → i < length nets → get_or nets i 0 ≡ n → Some i ≡ slot_of nets n
place_there nets i n up l e = sym (subst (λ m. slot_of nets m ≡ Some i) e (slot_at nets i up l))
