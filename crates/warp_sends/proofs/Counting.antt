-- How many messages on words tell a place.
use Rattle.std.proofs.Common.{◌≡◌, ◌≢◌, ◌∙◌, ℕ, ◌+◌, ◌<◌, ◌≤◌, ◌⊎◌, ◌==◌, inl, inr, Bool, true, false, cond, Some, None, is_some, List, [], ◌∷◌, length, get_or, refl, ap, sym, subst, arith}
use Rattle.std.specs.List.{list_any, count_by, sum_by, flat_map}
use Rattle.std.specs.List.Sorted.{IsPermutation, IsStrictlyIncreasing}
use Rattle.std.proofs.lemmas.Bool.{cases_lt, cases_eq, eq-eqb, ne_eqb, eqb-true, and_parts, true≢false}
use Rattle.std.proofs.lemmas.List.{append-nil, get_or_past}
use Rattle.std.proofs.lemmas.List.Sums.{sum_by-append, sum_by-cons}
use Rattle.std.proofs.lemmas.List.Sorted.{sum_by-IsPermutation}
use Rattle.std.proofs.lemmas.List.Kept.{AllPairs-from_increasing}
use Rattle.gate_values.specs.declared.logic.Change.{Change}
use Rattle.gate_values.specs.Changes.{same}
use Rattle.warp_stores.specs.Words.{Move}
use Rattle.warp_stores.specs.Dated.{Dated}
use Rattle.warp_stores.specs.Lists.{changes_at}
use Rattle.warp_part.specs.Portion.{Portion, IsPortion, slot_of}
use Rattle.warp_part.proofs.Slots.{slot_is, slot_at}
use Rattle.warp_process.specs.declared.message.Sign.{Sign}
use Rattle.warp_process.specs.Inner.Logs.{IsLog}
use Rattle.warp_process.specs.Shown.Step.{net_at, sent}
use Rattle.warp_process.specs.Sends.{Place, is_change, is_message, same_sign}
use Rattle.warp_process.proofs.Told.{count-apart, count-changes}
use Rattle.warp_sends.specs.Told.{told_of}

-- ---- in any order

count-flat : {A B : Type 0} (f : B → Bool) (g : A → List B) (xs : List A) → count_by f (flat_map g xs) ≡ sum_by (λ x. count_by f (g x)) xs
count-flat f g [] = refl
count-flat f g (x ∷ xs) =
    sum_by-append (λ y. cond (f y) 1 0) (g x) (flat_map g xs) ∙ ap (λ (n : ℕ). count_by f (g x) + n) (count-flat f g xs) ∙ sym (sum_by-cons (λ x. count_by f (g x)) x xs)

pub count-permuted : {A B : Type 0} (f : B → Bool) (g : A → List B) (xs ys : List A) → IsPermutation xs ys → count_by f (flat_map g ys) ≡ count_by f (flat_map g xs)
count-permuted f g xs ys same = count-flat f g ys ∙ sum_by-IsPermutation (λ x. count_by f (g x)) xs ys same ∙ sym (count-flat f g xs)

-- ---- apart

-- the numbers of a list that rises are apart
apart_readers : (b : ℕ) (rs : List ℕ) → IsStrictlyIncreasing rs → count_by (λ r. r == b) rs ≤ 1
apart_readers b rs up =
    count-apart (λ r. r == b) rs (λ i j d l k e f.
    omega (arith, AllPairs-from_increasing rs up i j d l k, eqb-true (get_or rs i d) b e, eqb-true (get_or rs j d) b f))

-- a log has one change at most at a time
pub apart_changes : (p : Place) (cs : List Change) → IsLog cs → count_by (is_change p) cs ≤ 1
apart_changes p cs is =
    count-apart (is_change p) cs (λ i j d l k e f.
    omega (
      arith,
      is.in_order i j d l k,
      eqb-true (get_or cs i d).time p.time (and_parts ((get_or cs i d).time == p.time) (same (get_or cs i d).value p.value) e).0,
      eqb-true (get_or cs j d).time p.time (and_parts ((get_or cs j d).time == p.time) (same (get_or cs j d).value p.value) f).0,
    ))

-- a place past the end has no readers
pub no_readers : (part : Portion) → IsPortion part → (i : ℕ) → length part.nets ≤ i → get_or part.readers i [] ≡ []
no_readers part is i past = get_or_past part.readers i [] (omega (arith, is.readers))

module _ (part : Portion) (is : IsPortion part) (p : Place) (s : Sign) (signed : same_sign s s ≡ true) where
  apart : (i : ℕ) → count_by (λ r. r == p.block) (get_or part.readers i []) ≤ 1
  apart i = elim (cases_lt i (length part.nets)) [
    | inl l ↦ apart_readers p.block (get_or part.readers i []) (is.told i l)
    | inr past ↦ subst (λ (rs : List ℕ). count_by (λ r. r == p.block) rs ≤ 1) (sym (no_readers part is i past)) (omega arith)
  ]

  -- whether its block reads the net at a place
  abbrev reads_at : ℕ → Bool
  reads_at i = list_any (λ r. r == p.block) (get_or part.readers i [])

  -- no other place has the net of a place
  nets_apart : (i j : ℕ) → i < length part.nets → j < length part.nets → i ≢ j → net_at part i ≢ net_at part j
  nets_apart i j l k ne e = elim (order i j ne) [
    | inl b ↦ omega (arith, AllPairs-from_increasing part.nets is.ascending i j 0 b k, e)
    | inr b ↦ omega (arith, AllPairs-from_increasing part.nets is.ascending j i 0 b l, e)
  ]
    where
      order : (i j : ℕ) → i ≢ j → (i < j) ⊎ (j < i)
      order i j ne = grind arith

  -- the messages on one word
  count-word : (d : Dated Move) → count_by (is_message s p) (told_of s part d)
      ≡ cond (net_at part d.1.place == p.net) (cond (reads_at d.1.place) (count_by (is_change p) (record { time = d.0; value = d.1.after } ∷ [])) 0) 0
  count-word d =
      let c : Change = record { time = d.0; value = d.1.after } in
      ap (count_by (is_message s p)) (sym (append-nil (told_of s part d)))
      ∙ count-changes p s s (net_at part d.1.place) (get_or part.readers d.1.place []) (c ∷ []) (apart d.1.place)
      ∙ rw signed refl

  -- a word of another net tells nothing
  count-away : (d : Dated Move) → (d.1.place < length part.nets → net_at part d.1.place ≢ p.net) → count_by (is_message s p) (told_of s part d) ≡ 0
  count-away d away = elim (cases_lt d.1.place (length part.nets)) [
    | inl l ↦ count-word d ∙ rw (ne_eqb (net_at part d.1.place) p.net (away l)) refl
    | inr past ↦ ap (λ (rs : List ℕ). count_by (is_message s p) (sent s (net_at part d.1.place) rs (record { time = d.0; value = d.1.after }))) (no_readers part is d.1.place past)
  ]

  count-more : (d : Dated Move) (ds : List (Dated Move)) → count_by (is_message s p) (flat_map (told_of s part) (d ∷ ds)) ≡ count_by (is_message s p) (told_of s part d) + count_by (is_message s p) (flat_map (told_of s part) ds)
  count-more d ds = sum_by-append (λ m. cond (is_message s p m) 1 0) (told_of s part d) (flat_map (told_of s part) ds)

  -- where no place has the net
  pub count-nowhere : slot_of part.nets p.net ≡ None → (ds : List (Dated Move)) → count_by (is_message s p) (flat_map (told_of s part) ds) ≡ 0
  count-nowhere none [] = refl
  count-nowhere none (d ∷ ds) =
      let one = count-away d (λ l same_net. true≢false (sym (ap is_some (sym none ∙ (ap (slot_of part.nets) (sym same_net) ∙ slot_at part.nets d.1.place is.ascending l))))) in
      let rest = count-nowhere none ds in
      omega (arith, count-more d ds, one, rest)

  -- where one place has it, they are as many as there are such changes of the place
  pub count-words : (j : ℕ) → slot_of part.nets p.net ≡ Some j → (ds : List (Dated Move)) → count_by (is_message s p) (flat_map (told_of s part) ds) ≡ cond (reads_at j) (count_by (is_change p) (changes_at j ds)) 0
  count-words j some [] = go (reads_at j)
    where
      go : (b : Bool) → ◌≡◌ {A = ℕ} 0 (cond b 0 0)
      go true = refl
      go false = refl
  count-words j some (d ∷ ds) = elim (cases_eq d.1.place j) [
    | inl here ↦
        (let at = slot_is part.nets p.net j some in
        let own : (d.1.place == j) ≡ true = eq-eqb d.1.place j here in
        let one : count_by (is_message s p) (told_of s part d) ≡ cond (reads_at j) (count_by (is_change p) (record { time = d.0; value = d.1.after } ∷ [])) 0 =
        count-word d ∙ rw (here, eq-eqb (net_at part j) p.net at.1) refl in
        count-more d ds ∙ rw (one, own) (add (reads_at j) (record { time = d.0; value = d.1.after }) (count-words j some ds)))
    | inr other ↦
        (let at = slot_is part.nets p.net j some in
        let one : count_by (is_message s p) (told_of s part d) ≡ 0 = count-away d (λ l same_net. nets_apart d.1.place j l at.0 other (same_net ∙ sym at.1)) in
        count-more d ds ∙ rw (one, ne_eqb d.1.place j other) (let rest = count-words j some ds in omega (arith, rest)))
  ]
    where
      add : (b : Bool) (c : Change) → count_by (is_message s p) (flat_map (told_of s part) ds) ≡ cond b (count_by (is_change p) (changes_at j ds)) 0
          → cond b (count_by (is_change p) (c ∷ [])) 0 + count_by (is_message s p) (flat_map (told_of s part) ds) ≡ cond b (count_by (is_change p) (c ∷ changes_at j ds)) 0
      add true c h = omega (arith, h, sum_by-append (λ e. cond (is_change p e) 1 0) (c ∷ []) (changes_at j ds))
      add false c h = omega (arith, h)
