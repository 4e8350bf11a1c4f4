-- Two ascending lists that are put into one, step by step.
use Rattle.std.proofs.Common.{◌≡◌, ℕ, ◌+◌, ◌<◌, ◌≤◌, ◌==◌, Bool, true, false, ◌||◌, List, [], ◌∷◌, ◌++◌, map, take, length, get_or, inl, inr, refl, ap, sym, ◌∙◌, arith}
use Rattle.std.specs.List.{All}
use Rattle.std.specs.List.Sorted.{IsStrictlyIncreasing}
use Rattle.std.proofs.lemmas.Bool.{cases_Bool, cases_lt, cases_eq, or_right, true≢false}
use Rattle.std.proofs.lemmas.List.{map-append, length-append, get_or_append_left, get_or_push}
use Rattle.std.proofs.lemmas.List.Elements.{All-append, All-cons, All-nil}
use Rattle.std.proofs.lemmas.List.Folds.{list_any-append, list_any_more}
use Rattle.warp_part.specs.Portion.{of_net}
use Rattle.warp_part.specs.Inner.Building.{has}
use Rattle.warp_part.specs.Inner.Uses.{noted, AreJoined, AreMerged, AreApart}
use Rattle.warp_part.proofs.Slots.{of_net-at}
use Rattle.warp_part.proofs.PartLists.{or_none, has_at}

-- ---- tests

pub or_swap : (a b c : Bool) → ((a || b) || c) ≡ ((a || c) || b)
or_swap true b c = refl
or_swap false true true = refl
or_swap false true false = refl
or_swap false false true = refl
or_swap false false false = refl

or_turned : (a b : Bool) → (a || b) ≡ (b || a)
or_turned true true = refl
or_turned true false = refl
or_turned false true = refl
or_turned false false = refl

pub has_push : (xs : List ℕ) (x n : ℕ) → has (xs ++ x ∷ []) n ≡ (has xs n || (x == n))
has_push xs x n = list_any-append (λ y. y == n) xs (x ∷ []) ∙ ap (λ t. has xs n || t) (or_none (x == n))

-- ---- one number more

rises_push : (xs : List ℕ) (x : ℕ) → IsStrictlyIncreasing xs → All (λ y. y < x) xs → IsStrictlyIncreasing (xs ++ x ∷ [])
rises_push xs x up below k l =
    elim (cases_lt (k + 1) (length xs)) [
      | inl inside ↦
          omega (arith, get_or_append_left xs (x ∷ []) 0 k (omega (arith, inside)), get_or_append_left xs (x ∷ []) 0 (k + 1) inside, up k inside)
      | inr past ↦
          (let last : length xs ≡ k + 1 = omega (arith, past, l, length-append xs (x ∷ [])) in
          omega (arith, get_or_append_left xs (x ∷ []) 0 k (omega (arith, last)), get_or_push xs x 0 (k + 1) last, below k 0 (omega (arith, last))))
    ]

AreJoined-swap : (first second : List ℕ) (i j : ℕ) (nets : List ℕ) → AreJoined first second i j nets → AreJoined second first j i nets
AreJoined-swap first second i j nets h = record {
  rising = h.rising;
  same = λ n. h.same n ∙ or_turned (has (take i first) n) (has (take j second) n);
  below_first = h.below_second;
  below_second = h.below_first;
}

-- the next number of the first list comes before that of the second
AreJoined-push : (first second : List ℕ) (i j : ℕ) (nets : List ℕ) → IsStrictlyIncreasing first → i < length first → (j < length second → get_or first i 0 < get_or second j 0)
    → AreJoined first second i j nets → AreJoined first second (i + 1) j (nets ++ get_or first i 0 ∷ [])
AreJoined-push first second i j nets up l less h =
    let x = get_or first i 0 in
    record {
      rising = rises_push nets x h.rising (h.below_first l);
      same = λ n.
          has_push nets x n ∙ ap (λ t. t || (x == n)) (h.same n) ∙ or_swap (has (take i first) n) (has (take j second) n) (x == n)
          ∙ ap (λ t. t || has (take j second) n) (sym (list_any_more (λ y. y == n) first i 0 l));
      below_first = λ m.
          (let step : x < get_or first (i + 1) 0 = up i m in
          All-append (λ n. n < get_or first (i + 1) 0) nets (x ∷ []) (λ k e q. omega (arith, h.below_first l k e q, step))
          (All-cons (λ n. n < get_or first (i + 1) 0) x [] step (All-nil (λ n. n < get_or first (i + 1) 0))));
      below_second = λ m.
          All-append (λ n. n < get_or second j 0) nets (x ∷ []) (h.below_second m)
          (All-cons (λ n. n < get_or second j 0) x [] (less m) (All-nil (λ n. n < get_or second j 0)));
    }

-- ---- own nets and others

module _ (own : List ℕ) (marks : List Bool) (others : List ℕ) where
  pub AreMerged-none : (nets : List ℕ) (used : List Bool) → nets ≡ [] → used ≡ [] → AreMerged own marks others 0 0 nets used
  AreMerged-none nets used none e = rw none (record {
    within_own = omega arith;
    within_others = omega arith;
    joined = record {
      rising = λ k l. absurd (omega (arith, l));
      same = λ n. refl;
      below_first = λ m k e l. absurd (omega (arith, l));
      below_second = λ m k e l. absurd (omega (arith, l));
    };
    told = e;
  })

  told_more : (nets : List ℕ) (used : List Bool) (net : ℕ) (mark : Bool) → used ≡ map (noted own marks others) nets → mark ≡ noted own marks others net
      → used ++ mark ∷ [] ≡ map (noted own marks others) (nets ++ net ∷ [])
  told_more nets used net mark told is =
      ap (λ us. us ++ mark ∷ []) told ∙ ap (λ m. map (noted own marks others) nets ++ m ∷ []) is ∙ sym (map-append (noted own marks others) nets (net ∷ []))

  module _ (apart : AreApart own marks others) where
    -- an own net isn't among the others
    not_other : (i : ℕ) → i < length own → has others (get_or own i 0) ≡ false
    not_other i l =
        elim (cases_Bool (has others (get_or own i 0))) [
          | inl there ↦ absurd (true≢false (sym (has_at own i (get_or own i 0) l refl) ∙ apart.apart (get_or own i 0) there))
          | inr free ↦ free
        ]

    pub AreMerged-own : (i j : ℕ) (nets : List ℕ) (used : List Bool) → i < length own → (j < length others → get_or own i 0 < get_or others j 0)
        → AreMerged own marks others i j nets used → AreMerged own marks others (i + 1) j (nets ++ get_or own i 0 ∷ []) (used ++ get_or marks i false ∷ [])
    AreMerged-own i j nets used l less h =
        let x = get_or own i 0 in
        let mark : noted own marks others x ≡ get_or marks i false =
        ap (λ t. t || has others x) (of_net-at own marks false i apart.own_rises l) ∙ ap (λ t. get_or marks i false || t) (not_other i l) ∙ or_none (get_or marks i false) in
        record {
          within_own = omega (arith, l);
          within_others = h.within_others;
          joined = AreJoined-push own others i j nets apart.own_rises l less h.joined;
          told = told_more nets used x (get_or marks i false) h.told (sym mark);
        }

    pub AreMerged-other : (i j : ℕ) (nets : List ℕ) (used : List Bool) → j < length others → (i < length own → get_or others j 0 ≤ get_or own i 0)
        → AreMerged own marks others i j nets used → AreMerged own marks others i (j + 1) (nets ++ get_or others j 0 ∷ []) (used ++ true ∷ [])
    AreMerged-other i j nets used l le h =
        let x = get_or others j 0 in
        let there : has others x ≡ true = has_at others j x l refl in
        record {
          within_own = h.within_own;
          within_others = omega (arith, l);
          joined = AreJoined-swap others own (j + 1) i (nets ++ x ∷ []) (AreJoined-push others own j i nets apart.others_rise l less (AreJoined-swap own others i j nets h.joined));
          told = told_more nets used x true h.told (sym (or_right (of_net own marks false x) (has others x) there));
        }
      where
        less : i < length own → get_or others j 0 < get_or own i 0
        less m =
            elim (cases_eq (get_or others j 0) (get_or own i 0)) [
              | inl same ↦ absurd (true≢false (sym (has_at others j (get_or own i 0) l same) ∙ not_other i m))
              | inr other ↦ omega (arith, other, le m)
            ]
