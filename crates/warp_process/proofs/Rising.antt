-- Lists whose items have rising times.
use Rattle.std.proofs.Common.{◌≡◌, ℕ, zero, suc, ◌<◌, ◌≤◌, Bool, true, false, List, [], ◌∷◌, filter, length, get_or, take, drop, Some, refl, ap, sym, subst, ◌∙◌, ◌+◌, ◌-◌, ltb, leb, arith, inl, inr}
use Rattle.std.specs.List.{All, AllPairs, AllWithin, insert}
use Rattle.std.specs.List.Sorted.{IsNonDecreasingBy, IsPartitionPoint}
use Rattle.std.proofs.lemmas.Bool.{cases_eq, cases_lt, ltb-true, ltb-false, leb-true, leb-false}
use Rattle.std.proofs.lemmas.List.{get_or_default, get_or-drop, length-drop}
use Rattle.std.proofs.lemmas.List.Elements.{All-cons, All-append, All-take, All-drop}
use Rattle.std.proofs.lemmas.List.Kept.{AllPairs-cons}
use Rattle.warp_process.specs.View.{IsLeast}

module _ {X : Type 0} (time : X → ℕ) where
  -- the times rise
  abbrev pub Rises : List X → Type 0
  Rises xs = AllPairs (λ x y. time x < time y) xs

  pub rising-not_falling : (xs : List X) → Rises xs → IsNonDecreasingBy time xs
  rising-not_falling xs r i j d h l = elim (cases_eq i j) [
    | inl e ↦ rw e (omega arith)
    | inr ne ↦ (let lt : time (get_or xs i d) < time (get_or xs j d) = r i j d (omega arith) l in omega arith)
  ]

  pub split-before : (xs : List X) (t i : ℕ) → IsPartitionPoint (λ x. ltb (time x) t ≡ true) (λ x. ltb (time x) t ≡ false) xs i → IsPartitionPoint (λ x. time x < t) (λ x. t ≤ time x) xs i
  split-before xs t i (low, high) = (λ k d a b. ltb-true _ _ (low k d a b), λ k d a b. ltb-false _ _ (high k d a b))

  pub split-until : (xs : List X) (t i : ℕ) → IsPartitionPoint (λ x. leb (time x) t ≡ true) (λ x. leb (time x) t ≡ false) xs i → IsPartitionPoint (λ x. time x ≤ t) (λ x. t < time x) xs i
  split-until xs t i (low, high) = (λ k d a b. leb-true _ _ (low k d a b), λ k d a b. leb-false _ _ (high k d a b))

  -- what stands before an item that isn't past a time isn't either
  pub early-before : (xs : List X) (t i : ℕ) (e : X) → Rises xs → i < length xs → time (get_or xs i e) ≤ t → AllWithin (λ x. time x ≤ t) xs 0 i
  early-before xs t i e r within early k d low high =
      let same : time (get_or xs i d) ≡ time (get_or xs i e) = ap time (get_or_default xs i d e within) in
      let before : time (get_or xs k d) < time (get_or xs i d) = r k i d high within in
      omega arith

  -- items up to one that is before a time are before it
  pub up_to-before : (xs : List X) (t i : ℕ) (e : X) → Rises xs → i < length xs → time (get_or xs i e) < t → AllWithin (λ x. time x < t) xs 0 (i + 1)
  up_to-before xs t i e r within early k d low high =
      let same : time (get_or xs i d) ≡ time (get_or xs i e) = ap time (get_or_default xs i d e within) in
      elim (cases_lt k i) [
        | inl lt ↦ (let before : time (get_or xs k d) < time (get_or xs i d) = r k i d lt within in omega arith)
        | inr ge ↦ (let here : k ≡ i = omega arith in rw here (omega arith))
      ]

  -- no item from one on that isn't before a time is before it
  pub from-late : (xs : List X) (t i : ℕ) (e : X) → Rises xs → i < length xs → t ≤ time (get_or xs i e) → AllWithin (λ x. t ≤ time x) xs i (length xs)
  from-late xs t i e r within late k d low high =
      let same : time (get_or xs i d) ≡ time (get_or xs i e) = ap time (get_or_default xs i d e within) in
      elim (cases_lt i k) [
        | inl lt ↦ (let after : time (get_or xs i d) < time (get_or xs k d) = r i k d lt high in omega arith)
        | inr ge ↦ (let here : k ≡ i = omega arith in rw here (omega arith))
      ]

  -- where none of the first items is past a time, it is enough to look at the others
  pub split-late : (xs : List X) (t first count : ℕ) → AllWithin (λ x. time x ≤ t) xs 0 first
      → IsPartitionPoint (λ x. time x ≤ t) (λ x. t < time x) (drop first xs) count
      → IsPartitionPoint (λ x. time x ≤ t) (λ x. t < time x) xs (first + count)
  split-late xs t first count early (low, high) = (
    λ k d a b. elim (cases_lt k first) [
      | inl lt ↦ early k d a lt
      | inr ge ↦ subst (λ (x : X). time x ≤ t) (rest k d ge) (low (k - first) d (omega arith) (omega arith))
    ],
    λ k d a b.
        let l : length (drop first xs) ≡ length xs - first = length-drop first xs in
        subst (λ (x : X). t < time x) (rest k d (omega arith)) (high (k - first) d (omega arith) (omega arith)),
  )
    where
      rest : (k : ℕ) (d : X) → first ≤ k → get_or (drop first xs) (k - first) d ≡ get_or xs k d
      rest k d ge = get_or-drop first xs (k - first) d ∙ ap (λ (i : ℕ). get_or xs i d) (let e : first + (k - first) ≡ k = omega arith in e)

  pub rising-tail : (x : X) (xs : List X) → Rises (x ∷ xs) → Rises xs
  rising-tail x xs r i j d h l = r (suc i) (suc j) d (omega arith) (omega arith)

  pub rising-drop : (n : ℕ) (xs : List X) → Rises xs → Rises (drop n xs)
  rising-drop n xs r i j d h l =
      let size : length (drop n xs) ≡ length xs - n = length-drop n xs in
      let in_all : time (get_or xs (n + i) d) < time (get_or xs (n + j) d) = r (n + i) (n + j) d (omega arith) (omega arith) in
      rw (get_or-drop n xs i d) (rw (get_or-drop n xs j d) in_all)

  -- an item between those before its time and those after it
  pub rising-insert : (xs : List X) (i : ℕ) (y : X) → Rises xs → i ≤ length xs
      → ((k : ℕ) (d : X) → k < i → time (get_or xs k d) < time y)
      → ((k : ℕ) (d : X) → i ≤ k → k < length xs → time y < time (get_or xs k d))
      → Rises (insert xs i y)
  rising-insert xs zero y r within before after = AllPairs-cons (λ a b. time a < time b) y xs (λ k d l. after k d (omega arith) l) r
  rising-insert [] (suc i) y r within before after = absurd (omega arith)
  rising-insert (x ∷ xs) (suc i) y r within before after =
      let later : All (λ z. time x < time z) xs = λ k d l. r 0 (suc k) d (omega arith) (omega arith) in
      AllPairs-cons (λ a b. time a < time b) x (insert xs i y)
      (All-append (λ z. time x < time z) (take i xs) (y ∷ drop i xs) (All-take (λ z. time x < time z) i xs later) (All-cons (λ z. time x < time z) y (drop i xs) (before 0 x (omega arith)) (All-drop (λ z. time x < time z) i xs later)))
      (rising-insert xs i y (rising-tail x xs r) (omega arith) (λ k d h. before (suc k) d (omega arith)) (λ k d h l. after (suc k) d (omega arith) (omega arith)))

  -- a place whose time isn't before a time isn't below the first such
  pub not_below : (xs : List X) (t i j : ℕ) (d : X) → IsPartitionPoint (λ x. time x < t) (λ x. t ≤ time x) xs i → t ≤ time (get_or xs j d) → i ≤ j
  not_below xs t i j d split h = elim (cases_lt j i) [
    | inl lt ↦ (let b : time (get_or xs j d) < t = split.0 j d (omega arith) lt in absurd (omega arith))
    | inr ge ↦ ge
  ]

  -- where something stands at times of places alone, the least such time from a time on is that of the first place where it does
  pub least_rising : (P : ℕ → Type 0) (xs : List X) (t i j : ℕ) (x : X) → Rises xs → IsPartitionPoint (λ x. time x < t) (λ x. t ≤ time x) xs i
      → ((u : ℕ) → P u → (k : ℕ) × (k < length xs) × ((d : X) → time (get_or xs k d) ≡ u))
      → i ≤ j → j < length xs → x ≡ get_or xs j x → P (time x) → ((k : ℕ) (d : X) → i ≤ k → k < j → P (time (get_or xs k d)) → ⊥)
      → IsLeast (λ u. (t ≤ u) × P u) (Some (time x))
  least_rising P xs t i j x r split placed from l is here none = (
    (subst (λ (y : X). t ≤ time y) (sym is) (split.1 j x from l), here),
    λ u h. (let place = placed u h.1 in
        let at : time (get_or xs place.0 x) ≡ u = place.2 x in
        let first : i ≤ place.0 = not_below xs t i place.0 x split (subst (λ (k : ℕ). t ≤ k) (sym at) h.0) in
        let same : time (get_or xs j x) ≡ time x = ap time (sym is) in
        elim (cases_lt place.0 j) [
          | inl lt ↦ absurd (none place.0 x first lt (subst P (sym at) h.1))
          | inr ge ↦ (let order : time (get_or xs j x) ≤ time (get_or xs place.0 x) = rising-not_falling xs r j place.0 x ge place.1 in omega arith)
        ]),
  )

-- what passes a test, where that is the front of a list
pub filter-front : {X : Type 0} (p : X → Bool) (xs : List X) (i : ℕ) → IsPartitionPoint (λ x. p x ≡ true) (λ x. p x ≡ false) xs i → filter p xs ≡ take i xs
filter-front p [] zero (low, high) = refl
filter-front p [] (suc i) (low, high) = refl
filter-front p (x ∷ xs) zero (low, high) = rw (high 0 x (omega arith) (omega arith)) (filter-front p xs zero (λ k d a b. absurd (omega arith), λ k d a b. high (suc k) d (omega arith) (omega arith)))
filter-front p (x ∷ xs) (suc i) (low, high) = rw (low 0 x (omega arith) (omega arith)) (ap (λ ys. x ∷ ys) (filter-front p xs i (λ k d a b. low (suc k) d (omega arith) (omega arith), λ k d a b. high (suc k) d (omega arith) (omega arith))))

-- and where it is the rest
pub filter-rest : {X : Type 0} (p : X → Bool) (xs : List X) (i : ℕ) → IsPartitionPoint (λ x. p x ≡ false) (λ x. p x ≡ true) xs i → filter p xs ≡ drop i xs
filter-rest p [] zero (low, high) = refl
filter-rest p [] (suc i) (low, high) = refl
filter-rest p (x ∷ xs) zero (low, high) = rw (high 0 x (omega arith) (omega arith)) (ap (λ ys. x ∷ ys) (filter-rest p xs zero (λ k d a b. absurd (omega arith), λ k d a b. high (suc k) d (omega arith) (omega arith))))
filter-rest p (x ∷ xs) (suc i) (low, high) = rw (low 0 x (omega arith) (omega arith)) (filter-rest p xs i (λ k d a b. low (suc k) d (omega arith) (omega arith), λ k d a b. high (suc k) d (omega arith) (omega arith)))
