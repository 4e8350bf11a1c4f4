-- The bits that were found to differ, a pair at a time.
use Rattle.std.proofs.Common.{◌≡◌, ◌⊎◌, inl, inr, ℕ, ◌+◌, ◌<◌, ◌≤◌, true, false, cond, nat_eq, List, [], ◌∷◌, ◌++◌, get_or, Option, Some, None, option_map, refl, ap, sym, subst, ◌∙◌, arith}
use Rattle.std.specs.List.{AllByRecursion}
use Rattle.std.proofs.lemmas.Bool.Decides.{nat_tests}
use Rattle.std.proofs.lemmas.Option.{same_Some}
use Rattle.bit_compare.specs.declared.difference.Difference.{Difference}
use Rattle.vcd_bits.specs.Names.{Bit}
use Rattle.vcd_compare.specs.declared.report.Differing.{Differing}
use Rattle.vcd_compare.specs.Comparison.{AreAscending, difference_of, differing_at}
use Rattle.vcd_compare.specs.Inner.Found.{AreFoundUpTo, IsNoted}
use Rattle.vcd_compare.specs.Inner.Held.{name_at}

le_or_lt : (n m : ℕ) → (n ≤ m) ⊎ (m < n)
le_or_lt n m = grind arith

other : (n m : ℕ) → n < m → nat_eq n m ≡ false
other n m h = grind (arith, nat_tests, h)

another : (n m : ℕ) → m < n → nat_eq n m ≡ false
another n m h = grind (arith, nat_tests, h)

own : (n : ℕ) → nat_eq n n ≡ true
own n = grind (arith, nat_tests)

abbrev AreBelow : ℕ → List Differing → Type 0
AreBelow n ds = AllByRecursion (λ (d : Differing). d.pair < n) ds

-- behind others, another pair
at-front : (ds : List Differing) (d : Differing) (k : ℕ) → nat_eq d.pair k ≡ false → differing_at (ds ++ d ∷ []) k ≡ differing_at ds k
at-front [] d k e = rw e refl
at-front (x ∷ ds) d k e = ap (λ o. cond (nat_eq x.pair k) (Some x) o) (at-front ds d k e)

-- the last one, where the others are below it
at-last : (ds : List Differing) (d : Differing) (k : ℕ) → AreBelow k ds → d.pair ≡ k → differing_at (ds ++ d ∷ []) k ≡ Some d
at-last [] d k b e = rw (e, own k) refl
at-last (x ∷ ds) d k b e = rw (other x.pair k b.0) (at-last ds d k b.1 e)

none-at : (ds : List Differing) (k : ℕ) → AreBelow k ds → differing_at ds k ≡ None
none-at [] k b = refl
none-at (x ∷ ds) k b = rw (other x.pair k b.0) (none-at ds k b.1)

below-more : (ds : List Differing) (n : ℕ) → AreBelow n ds → AreBelow (n + 1) ds
below-more [] n b = tt
below-more (d ∷ ds) n b = (omega (arith, b.0), below-more ds n b.1)

below-with : (ds : List Differing) (d : Differing) (n : ℕ) → AreBelow n ds → d.pair ≡ n → AreBelow (n + 1) (ds ++ d ∷ [])
below-with [] d n b e = (omega (arith, e), tt)
below-with (x ∷ ds) d n b e = (omega (arith, b.0), below-with ds d n b.1 e)

below-up : (ds : List Differing) (n k : ℕ) → n ≤ k → AreBelow n ds → AreBelow k ds
below-up [] n k h b = tt
below-up (d ∷ ds) n k h b = (omega (arith, b.0), below-up ds n k h b.1)

above-with : (ds : List Differing) (d : Differing) (n : ℕ) → AllByRecursion (λ (x : Differing). n < x.pair) ds → n < d.pair → AllByRecursion (λ (x : Differing). n < x.pair) (ds ++ d ∷ [])
above-with [] d n a h = (h, tt)
above-with (x ∷ ds) d n a h = (a.0, above-with ds d n a.1 h)

ascending-with : (ds : List Differing) (d : Differing) (n : ℕ) → AreBelow n ds → AreAscending ds → d.pair ≡ n → AreAscending (ds ++ d ∷ [])
ascending-with [] d n b a e = (tt, tt)
ascending-with (x ∷ ds) d n b a e = (above-with ds d x.pair a.0 (omega (arith, b.0, e)), ascending-with ds d n b.1 a.1 e)

nothing-there : (d : Differing) → None ≡ Some d → ⊥
nothing-there d e = cc

module _ (Law : ℕ → Option Difference → Type 0) (bits : List Bit) (numbers : List ℕ) where
  pub found-none : (n : ℕ) → n ≡ 0 → AreFoundUpTo Law bits numbers n []
  found-none n e = record { each = λ k h. absurd (omega arith); below = tt; ascending = tt; named = λ k d x a b. absurd (nothing-there d a) }

  -- one pair more
  pub found-more : (n : ℕ) (old new : List Differing) (number : ℕ) (o : Option Difference) → number ≡ get_or numbers n 0 → AreFoundUpTo Law bits numbers n old → Law n o → IsNoted old new n (name_at bits number) o → AreFoundUpTo Law bits numbers (n + 1) new
  found-more n old new number None en are law e = rw e (record {
    each = λ k h. by k h (le_or_lt n k);
    below = below-more old n are.below;
    ascending = are.ascending;
    named = are.named;
  })
    where
      by : (k : ℕ) → k < n + 1 → (n ≤ k) ⊎ (k < n) → Law k (difference_of old k)
      by k h (inl m) = let same : n ≡ k = omega arith in subst (λ (j : ℕ). Law j (difference_of old j)) same (rw (none-at old n are.below) law)
      by k h (inr m) = are.each k m
  found-more n old new number (Some difference) en are law (d, e, pair, same, named) = rw e (record {
    each = λ k h. by k h (le_or_lt n k);
    below = below-with old d n are.below pair;
    ascending = ascending-with old d n are.below are.ascending pair;
    named = λ k x name at is. called k x name at is (le_or_lt n k);
  })
    where
      here : difference_of (old ++ d ∷ []) n ≡ Some difference
      here = ap (option_map (λ (x : Differing). x.difference)) (at-last old d n are.below pair) ∙ ap (λ x. Some x) same

      before : (k : ℕ) → k < n → differing_at (old ++ d ∷ []) k ≡ differing_at old k
      before k h = at-front old d k (rw pair (another n k h))

      by : (k : ℕ) → k < n + 1 → (n ≤ k) ⊎ (k < n) → Law k (difference_of (old ++ d ∷ []) k)
      by k h (inl m) = let one : n ≡ k = omega arith in subst (λ (j : ℕ). Law j (difference_of (old ++ d ∷ []) j)) one (rw here law)
      by k h (inr m) = subst (λ (o : Option Difference). Law k o) (ap (option_map (λ (x : Differing). x.difference)) (sym (before k m))) (are.each k m)

      called : (k : ℕ) (x : Differing) (name : List ℕ) → differing_at (old ++ d ∷ []) k ≡ Some x → name_at bits (get_or numbers k 0) ≡ Some name → (n ≤ k) ⊎ (k < n) → x.name.items ≡ name
      called k x name at is (inr m) = are.named k x name (sym (before k m) ∙ at) is
      called k x name at is (inl m) = exact (le_or_lt k n)
        where
          exact : (k ≤ n) ⊎ (n < k) → x.name.items ≡ name
          exact (inl l) =
              let one : k ≡ n = omega arith in
              let this : d ≡ x = same_Some d x (sym (at-last old d n are.below pair) ∙ ap (differing_at (old ++ d ∷ [])) (sym one) ∙ at) in
              let called : name_at bits number ≡ Some name = ap (name_at bits) (en ∙ ap (λ j. get_or numbers j 0) (sym one)) ∙ is in
              ap (λ (y : Differing). y.name.items) (sym this) ∙ named name called
          exact (inr l) =
              let gone : None ≡ Some x = sym (at-front old d k (rw pair (other n k l)) ∙ none-at old k (below-up old n k (omega arith) are.below)) ∙ at in
              absurd (cc)
