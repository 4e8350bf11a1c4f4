-- Ascending lists of numbers.
use Rattle.std.proofs.Common.{◌≡◌, ℕ, suc, ◌+◌, ◌<◌, ◌≤◌, ◌==◌, eqb, Bool, true, false, ◌&&◌, ◌||◌, List, [], ◌∷◌, length, get_or, inl, inr, refl, ap, sym, subst, ◌∙◌, arith, zero-add}
use Rattle.std.specs.List.{filter, list_any, range_with_len, All, Contains, dedup}
use Rattle.std.specs.List.Sorted.{IsStrictlyIncreasing, IsPermutation}
use Rattle.std.proofs.lemmas.Bool.{cases_Bool, cases_lt, cases_order, cases_eq, eqb-true, eq-eqb, ne_eqb}
use Rattle.std.proofs.lemmas.List.{get_or_default}
use Rattle.std.proofs.lemmas.List.Elements.{All-filter, All-from_get_or}
use Rattle.std.proofs.lemmas.List.Folds.{list_any_none, list_any_at, Any-from_list_any}
use Rattle.std.proofs.lemmas.List.FromFn.{length-range_with_len, get_or-range_with_len}
use Rattle.std.proofs.lemmas.List.Kept.{AllPairs-from_increasing, IsStrictlyIncreasing-filter, Contains-dedup_nat, Contains-from_dedup}
use Rattle.std.proofs.lemmas.List.Sorted.{list_any-IsPermutation}
use Rattle.warp_part.specs.Inner.Building.{has}

-- ---- tests

pub or_none : (a : Bool) → (a || false) ≡ a
or_none true = refl
or_none false = refl

pub and_none : (a : Bool) → (a && false) ≡ false
and_none true = refl
and_none false = refl

-- ---- numbers from 0 on

pub range_below : (n : ℕ) → All (λ x. x < n) (range_with_len 0 n)
range_below n =
    All-from_get_or (λ x. x < n) (range_with_len 0 n) 0
    (λ i l. let m : i < n = omega (arith, l, length-range_with_len 0 n) in omega (arith, m, get_or-range_with_len 0 n i 0 m))

pub kept_below : (p : ℕ → Bool) (n : ℕ) → All (λ x. x < n) (filter p (range_with_len 0 n))
kept_below p n = All-filter p (λ x. x < n) (range_with_len 0 n) (range_below n)

range_rises : (n : ℕ) → IsStrictlyIncreasing (range_with_len 0 n)
range_rises n k l =
    let m : k + 1 < n = omega (arith, l, length-range_with_len 0 n) in
    let below : k < n = omega arith in
    omega (arith, get_or-range_with_len 0 n k 0 below, get_or-range_with_len 0 n (k + 1) 0 m)

pub kept_rises : (p : ℕ → Bool) (n : ℕ) → IsStrictlyIncreasing (filter p (range_with_len 0 n))
kept_rises p n = IsStrictlyIncreasing-filter p (range_with_len 0 n) (range_rises n)

pub any_below : (p : ℕ → Bool) (n m : ℕ) → n < m → p n ≡ true → list_any p (range_with_len 0 m) ≡ true
any_below p n m l h =
    let at : get_or (range_with_len 0 m) n 0 ≡ n = get_or-range_with_len 0 m n 0 l ∙ zero-add n in
    list_any_at p (range_with_len 0 m) n 0 (omega (arith, length-range_with_len 0 m)) (ap p at ∙ h)

filter_shorter : (p : ℕ → Bool) (xs : List ℕ) → length (filter p xs) ≤ length xs
filter_shorter p [] = omega arith
filter_shorter p (x ∷ xs) =
    elim (cases_Bool (p x)) [
      | inl passes ↦ rw passes (omega (arith, filter_shorter p xs))
      | inr fails ↦ rw fails (omega (arith, filter_shorter p xs))
    ]

pub kept_few : (p : ℕ → Bool) (n : ℕ) → length (filter p (range_with_len 0 n)) ≤ n
kept_few p n = omega (arith, filter_shorter p (range_with_len 0 n), length-range_with_len 0 n)

-- ---- whether a list has a number

pub has_at : (xs : List ℕ) (i n : ℕ) → i < length xs → get_or xs i 0 ≡ n → has xs n ≡ true
has_at xs i n l e = list_any_at (λ x. x == n) xs i 0 l (eq-eqb (get_or xs i 0) n e)

has_filter : (p : ℕ → Bool) (xs : List ℕ) (n : ℕ) → has (filter p xs) n ≡ (has xs n && p n)
has_filter p [] n = refl
has_filter p (x ∷ xs) n =
    let rest = has_filter p xs n in
    elim (cases_Bool (p x)) [
      | inl passes ↦ elim (cases_Bool (x == n)) [
        | inl same ↦ (let e : p n ≡ true = subst (λ m. p m ≡ true) (eqb-true x n same) passes in rw (passes, same, e) refl)
        | inr other ↦ rw (passes, other) rest
      ]
      | inr fails ↦ elim (cases_Bool (x == n)) [
        | inl same ↦ (let e : p n ≡ false = subst (λ m. p m ≡ false) (eqb-true x n same) fails in rw (fails, rest, e, same) (none (has xs n)))
        | inr other ↦ rw (fails, other) rest
      ]
    ]
  where
    none : (a : Bool) → (a && false) ≡ (true && false)
    none true = refl
    none false = refl

has_range : (n m : ℕ) → n < m → has (range_with_len 0 m) n ≡ true
has_range n m l = has_at (range_with_len 0 m) n n (omega (arith, length-range_with_len 0 m)) (get_or-range_with_len 0 m n 0 l ∙ zero-add n)

pub has_kept : (p : ℕ → Bool) (m n : ℕ) → n < m → has (filter p (range_with_len 0 m)) n ≡ p n
has_kept p m n l = has_filter p (range_with_len 0 m) n ∙ ap (λ b. b && p n) (has_range n m l)

pub has_past : (xs : List ℕ) (m n : ℕ) → All (λ x. x < m) xs → m ≤ n → has xs n ≡ false
has_past xs m n below l =
    list_any_none (λ x. x == n) xs (λ k d h. ne_eqb (get_or xs k d) n (λ e. absurd (omega (arith, below k d h, e))))

pub past_kept : (p : ℕ → Bool) (m n : ℕ) → m ≤ n → has (filter p (range_with_len 0 m)) n ≡ false
past_kept p m n l = has_past (filter p (range_with_len 0 m)) m n (kept_below p m) l

-- ---- two ascending lists that have the same numbers

record Ascends (xs : List ℕ) : Type 0 where
  pairs : (i j : ℕ) → i < j → j < length xs → get_or xs i 0 < get_or xs j 0

Ascends-tail : (x : ℕ) (xs : List ℕ) → Ascends (x ∷ xs) → Ascends xs
Ascends-tail x xs h = record { pairs = λ i j less l. h.pairs (suc i) (suc j) (omega (arith, less)) (omega (arith, l)) }

-- a number that is no more than the first is in no place past it
not_past : (x n : ℕ) (xs : List ℕ) → Ascends (x ∷ xs) → n ≤ x → has xs n ≡ false
not_past x n xs h le =
    list_any_none (λ y. y == n) xs
    (λ k d l. ne_eqb (get_or xs k d) n (λ e. absurd (omega (arith, h.pairs 0 (suc k) (omega arith) (omega (arith, l)), le, default k d l, e))))
  where
    default : (k d : ℕ) → k < length xs → get_or xs k d ≡ get_or xs k 0
    default k d l = get_or_default xs k d 0 l

not_in : (x n : ℕ) (xs : List ℕ) → Ascends (x ∷ xs) → n < x → has (x ∷ xs) n ≡ false
not_in x n xs h less =
    let head : (x == n) ≡ false = ne_eqb x n (λ e. absurd (omega (arith, less, e))) in
    rw head (not_past x n xs h (omega arith))

has_first : (x : ℕ) (xs : List ℕ) → has (x ∷ xs) x ≡ true
has_first x xs = rw (eq-eqb x x refl) refl

same_ascending : (xs ys : List ℕ) → Ascends xs → Ascends ys → ((n : ℕ) → has xs n ≡ has ys n) → xs ≡ ys
same_ascending [] [] g h same = refl
same_ascending [] (y ∷ ys) g h same = absurd (let e = same y ∙ has_first y ys in cc)
same_ascending (x ∷ xs) [] g h same = absurd (let e = sym (same x) ∙ has_first x xs in cc)
same_ascending (x ∷ xs) (y ∷ ys) g h same =
    elim (cases_order x y) [
      | inl e ↦ (let rest : xs ≡ ys = same_ascending xs ys (Ascends-tail x xs g) (Ascends-tail y ys h) (tails e) in cc)
      | inr (inl less) ↦ absurd (let e = sym (has_first x xs) ∙ same x ∙ not_in y x ys h less in cc)
      | inr (inr more) ↦ absurd (let e = sym (has_first y ys) ∙ sym (same y) ∙ not_in x y xs g more in cc)
    ]
  where
    tails : x ≡ y → (n : ℕ) → has xs n ≡ has ys n
    tails e n =
        elim (cases_eq x n) [
          | inl at ↦ not_past x n xs g (omega (arith, at)) ∙ sym (not_past y n ys h (omega (arith, at, e)))
          | inr other ↦
              (let left : (x == n) ≡ false = ne_eqb x n other in
              let right : (y == n) ≡ false = ne_eqb y n (λ f. other (e ∙ f)) in
              let both = same n in
              rw (left, right) at both)
        ]

Ascends-from : (xs : List ℕ) → IsStrictlyIncreasing xs → Ascends xs
Ascends-from xs up = record { pairs = λ i j less l. AllPairs-from_increasing xs up i j 0 less l }

-- the ascending list of the numbers that pass
pub kept_is : (p : ℕ → Bool) (m : ℕ) (xs : List ℕ) → IsStrictlyIncreasing xs → ((n : ℕ) → n < m → has xs n ≡ p n) → ((n : ℕ) → m ≤ n → has xs n ≡ false)
    → xs ≡ filter p (range_with_len 0 m)
kept_is p m xs up below past =
    same_ascending xs (filter p (range_with_len 0 m)) (Ascends-from xs up) (Ascends-from (filter p (range_with_len 0 m)) (kept_rises p m))
    (λ n. elim (cases_lt n m) [
      | inl l ↦ below n l ∙ sym (has_kept p m n l)
      | inr l ↦ past n l ∙ sym (past_kept p m n l)
    ])

-- ---- the numbers of a list, in order

same_tests : (a b : Bool) → (a ≡ true → b ≡ true) → (b ≡ true → a ≡ true) → a ≡ b
same_tests true b to back = sym (to refl)
same_tests false true to back = back refl
same_tests false false to back = refl

Contains-has : (xs : List ℕ) (n : ℕ) → has xs n ≡ true → Contains xs n
Contains-has xs n h =
    let (k, x, l, at, e) = Any-from_list_any (λ x. x == n) xs h in
    (k, l, get_or_default xs k n x l ∙ (at ∙ eqb-true x n e))

has-Contains : (xs : List ℕ) (n : ℕ) → Contains xs n → has xs n ≡ true
has-Contains xs n (k, l, at) = has_at xs k n l (get_or_default xs k 0 n l ∙ at)

-- a sort and a dedup keep what a list has
pub has-settled : (xs ys : List ℕ) (n : ℕ) → IsPermutation xs ys → has (dedup eqb ys) n ≡ has xs n
has-settled xs ys n moved =
    same_tests (has (dedup eqb ys) n) (has ys n)
    (λ h. has-Contains ys n (Contains-from_dedup eqb ys n (Contains-has (dedup eqb ys) n h)))
    (λ h. has-Contains (dedup eqb ys) n (Contains-dedup_nat ys n (Contains-has ys n h)))
    ∙ sym (list_any-IsPermutation (λ x. x == n) xs ys moved)

-- ---- tests of what a filter keeps

pub any_same : (p q : ℕ → Bool) → ((x : ℕ) → p x ≡ q x) → (xs : List ℕ) → list_any p xs ≡ list_any q xs
any_same p q same [] = refl
any_same p q same (x ∷ xs) =
    let first = same x in
    let rest = any_same p q same xs in
    cc

pub any_kept : (p keep : ℕ → Bool) (xs : List ℕ) → list_any p (filter keep xs) ≡ list_any (λ x. keep x && p x) xs
any_kept p keep [] = refl
any_kept p keep (x ∷ xs) =
    let rest = any_kept p keep xs in
    elim (cases_Bool (keep x)) [
      | inl kept ↦ rw (kept, rest) refl
      | inr left ↦ rw left rest
    ]
