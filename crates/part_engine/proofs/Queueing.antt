-- The queues of a part's places.
use Rattle.std.proofs.Common.{◌≡◌, ◌∙◌, ℕ, ◌+◌, ◌≤◌, ◌==◌, ◌++◌, eqb, inl, inr, Bool, false, IsTrue, unwrap_or, Result, Ok, Err, List, [], ◌∷◌, length, get_or, refl, ap, sym, subst, arith}
use Rattle.std.specs.List.{dedup}
use Rattle.std.specs.List.Sorted.{IsStrictlyIncreasing, IsPermutation, IsSorted, IsBinarySearchResult}
use Rattle.std.specs.Ordering.{nat_cmp}
use Rattle.std.specs.Result.{MatchResult}
use Rattle.std.proofs.lemmas.Bool.{cases_lt, eq-eqb, or_left, or_right}
use Rattle.std.proofs.lemmas.List.{length-append, get_or_append_left}
use Rattle.std.proofs.lemmas.List.Folds.{list_any-append}
use Rattle.std.proofs.lemmas.Map.Keys.{IsStrictlyIncreasing-dedup}
use Rattle.warp_part.specs.Portion.{Portion}
use Rattle.warp_part.specs.Inner.Building.{has}
use Rattle.warp_part.specs.Shown.Building.{place_of}
use Rattle.warp_part.proofs.PartLists.{has-settled}
use Rattle.warp_part.proofs.PartPlaces.{place_found}
use Rattle.part_engine.specs.Inner.Queues.{delay_at, puts_out, number_at, HaveDelays, HasDelays, AreNumbers}

-- ---- delays

has_push : (xs : List ℕ) (x n : ℕ) → IsTrue (has xs n) → IsTrue (has (xs ++ x ∷ []) n)
has_push xs x n h = list_any-append (λ y. y == n) xs (x ∷ []) ∙ or_left (has xs n) (has (x ∷ []) n) h

has_last : (xs : List ℕ) (x : ℕ) → IsTrue (has (xs ++ x ∷ []) x)
has_last xs x = list_any-append (λ y. y == x) xs (x ∷ []) ∙ or_right (has xs x) (has (x ∷ []) x) (or_left (x == x) false (eq-eqb x x refl))

pub delays_none : (p : Portion) (used : Bool) → HaveDelays p used 0 []
delays_none p used = record { few = omega arith; each = λ i l h. absurd (omega arith) }

pub delays_more : (p : Portion) (used : Bool) (count delay : ℕ) (delays : List ℕ) → delay ≡ delay_at p count → HaveDelays p used count delays → HaveDelays p used (count + 1) (delays ++ delay ∷ [])
delays_more p used count delay delays is have = record {
  few = (let e = length-append delays (delay ∷ []) in omega (arith, have.few));
  each = λ i l h. elim (cases_lt i count) [
    | inl k ↦ has_push delays delay (delay_at p i) (have.each i k h)
    | inr g ↦ (let e : i ≡ count = omega arith in subst (λ n. IsTrue (has (delays ++ delay ∷ []) n)) (is ∙ ap (delay_at p) (sym e)) (has_last delays delay))
  ];
}

pub delays_same : (p : Portion) (used : Bool) (count : ℕ) (delays : List ℕ) → puts_out p used count ≡ false → HaveDelays p used count delays → HaveDelays p used (count + 1) delays
delays_same p used count delays out have = record {
  few = omega (arith, have.few);
  each = λ i l h. elim (cases_lt i count) [
    | inl k ↦ have.each i k h
    | inr g ↦ (let e : i ≡ count = omega arith in absurd (let f = sym h ∙ ap (puts_out p used) e ∙ out in cc))
  ];
}

-- in order, each once
pub delays_settled : (p : Portion) (used : Bool) (count : ℕ) (old sorted new : List ℕ) → length p.nets ≤ count → count ≤ 1000000 → HaveDelays p used count old
    → IsPermutation old sorted → IsSorted nat_cmp sorted → length sorted ≡ length old → new ≡ dedup eqb sorted → length new ≤ length sorted → HasDelays p used new
delays_settled p used count old sorted new all few have moved order same is less = record {
  rising = subst IsStrictlyIncreasing (sym is) (IsStrictlyIncreasing-dedup sorted order);
  few = omega (arith, have.few, same, less);
  each = λ i l h. ap (λ xs. has xs (delay_at p i)) is ∙ has-settled old sorted (delay_at p i) moved ∙ have.each i (omega arith) h;
}

-- ---- numbers

pub numbers_none : (p : Portion) (read unread : List ℕ) → AreNumbers p read unread 0 []
numbers_none p read unread = record { same = refl; each = λ i l. absurd (omega arith) }

pub numbers_more : (p : Portion) (read unread : List ℕ) (count number : ℕ) (numbers : List ℕ) → number ≡ number_at p read unread count → AreNumbers p read unread count numbers → AreNumbers p read unread (count + 1) (numbers ++ number ∷ [])
numbers_more p read unread count number numbers is are = record {
  same = (let e = length-append numbers (number ∷ []) in omega (arith, are.same));
  each = λ i l. elim (cases_lt i count) [
    | inl k ↦ get_or_append_left numbers (number ∷ []) 0 i (omega (arith, are.same)) ∙ are.each i k
    | inr g ↦ (let e : i ≡ length numbers = omega (arith, are.same) in let f : i ≡ count = omega arith in
        ap (λ k. get_or (numbers ++ number ∷ []) k 0) e ∙ last numbers ∙ is ∙ ap (number_at p read unread) (sym f))
  ];
}
  where
    last : (xs : List ℕ) → get_or (xs ++ number ∷ []) (length xs) 0 ≡ number
    last [] = refl
    last (x ∷ xs) = last xs

-- a search finds a number's place
pub found_place : (numbers : List ℕ) (number : ℕ) (r : Result ℕ ℕ) → IsStrictlyIncreasing numbers → IsBinarySearchResult (λ y. nat_cmp y number) numbers r → MatchResult r (λ i. i ≡ place_of numbers number) (λ i. 0 ≡ place_of numbers number)
found_place numbers number (Ok i) rising h = sym (ap (λ o. unwrap_or o 0) (place_found numbers number (Ok i) rising h))
found_place numbers number (Err i) rising h = sym (ap (λ o. unwrap_or o 0) (place_found numbers number (Err i) rising h))
