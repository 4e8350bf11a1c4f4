-- Laws of marks.
use Rattle.std.proofs.Common.{◌≡◌, ◌≢◌, ℕ, ◌+◌, ◌<◌, ◌⊎◌, inl, inr, Bool, true, false, ◌||◌, nat_eq, List, [], ◌∷◌, ◌++◌, length, get_or, take, refl, ap, sym, ◌∙◌, subst, arith}
use Rattle.std.proofs.Math.ListN.{set, length-set}
use Rattle.std.proofs.lemmas.Bool.Decides.{nat_tests}
use Rattle.std.proofs.lemmas.List.{get_or-set_same, get_or-set_other, get_or_default, take_more}
use Rattle.std.proofs.lemmas.List.Folds.{list_any-append}
use Rattle.std.proofs.lemmas.List.FromFn.{length-map-range_with_len, get_or-map-range_with_len, map-range_with_len_more, fill_by_all}
use Rattle.gate_netlist.specs.Circuit.{is_one_of}
use Rattle.only_nets.specs.Marks.{marks}

eq_true : (s t : ℕ) → s ≡ t → nat_eq s t ≡ true
eq_true s t h = grind (arith, nat_tests)

eq_false : (s t : ℕ) → s ≢ t → nat_eq s t ≡ false
eq_false s t h = grind (arith, nat_tests)

cases_eq : (s t : ℕ) → (s ≡ t) ⊎ (s ≢ t)
cases_eq s t = grind arith

pub length-marks : (count : ℕ) (nets : List ℕ) → length (marks count nets) ≡ count
unfolding marks
length-marks count nets = length-map-range_with_len (is_one_of nets) 0 count

pub mark-at : (count : ℕ) (nets : List ℕ) (n : ℕ) → n < count → get_or (marks count nets) n false ≡ is_one_of nets n
unfolding marks
mark-at count nets n h = get_or-map-range_with_len (is_one_of nets) 0 count n n false h (omega arith)

pub no_marks-more : (count : ℕ) → marks count [] ++ false ∷ [] ≡ marks (count + 1) []
unfolding marks
no_marks-more count = sym (map-range_with_len_more (is_one_of []) 0 count count (omega arith))

or-true : (b : Bool) → (b || (true || false)) ≡ true
or-true true = refl
or-true false = refl

or-false : (b : Bool) → (b || (false || false)) ≡ b
or-false true = refl
or-false false = refl

one-more : (nets : List ℕ) (n k : ℕ) → is_one_of (nets ++ n ∷ []) k ≡ (is_one_of nets k || (nat_eq n k || false))
one-more nets n k = list_any-append (λ net. nat_eq net k) nets (n ∷ [])

-- one more net is marked
pub marks-more : (count : ℕ) (nets : List ℕ) (n : ℕ) → n < count → set (marks count nets) n true ≡ marks count (nets ++ n ∷ [])
unfolding marks
marks-more count nets n known = fill_by_all (is_one_of (nets ++ n ∷ [])) (set (marks count nets) n true) count false (length-set (marks count nets) n true ∙ length-marks count nets) at
  where
    at : (k : ℕ) → k < count → get_or (set (marks count nets) n true) k false ≡ is_one_of (nets ++ n ∷ []) k
    at k h = elim (cases_eq n k) [
      | inl same ↦ subst (λ (m : ℕ). get_or (set (marks count nets) n true) m false ≡ is_one_of (nets ++ n ∷ []) m) same
          (get_or-set_same (marks count nets) n true false (omega (arith, length-marks count nets)) ∙ sym (one-more nets n n ∙ rw (eq_true n n refl) (or-true (is_one_of nets n))))
      | inr other ↦ (get_or-set_other (marks count nets) n k true false (λ e. other (sym e)) ∙ mark-at count nets k h ∙ sym (one-more nets n k ∙ rw (eq_false n k other) (or-false (is_one_of nets k))))
    ]

pub marks-next : (count : ℕ) (nets : List ℕ) (i d : ℕ) → i < length nets → get_or nets i d < count → set (marks count (take i nets)) (get_or nets i d) true ≡ marks count (take (i + 1) nets)
marks-next count nets i d within known = marks-more count (take i nets) (get_or nets i d) known ∙ ap (marks count) (sym (take_more nets i d within))

pub marks-none : [] ≡ marks 0 []
unfolding marks
marks-none = refl

-- what stands at a net is whether it is marked
pub mark-read : (all : List Bool) (count : ℕ) (nets : List ℕ) (n : ℕ) (b : Bool) → all ≡ marks count nets → n < count → b ≡ get_or all n b → is_one_of nets n ≡ b
mark-read all count nets n b e known at =
    let within : n < length all = omega (arith, ap length e, length-marks count nets) in
    sym (mark-at count nets n known) ∙ ap (λ ms. get_or ms n false) (sym e) ∙ get_or_default all n false b within ∙ sym at
