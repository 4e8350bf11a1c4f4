-- What taking a message makes of a block.
use Rattle.std.proofs.Common.{◌≡◌, ◌≢◌, ℕ, zero, suc, ℤ, pos, ◌+ℤ◌, ◌<◌, ◌≤◌, ◌⊎◌, ◌==◌, Bool, true, false, cond, Option, Some, None, Result, Ok, Err, List, [], ◌∷◌, take, length, get_or, inl, inr, refl, ap, sym, ◌∙◌, subst, arith, All}
use Rattle.std.specs.Result.{IfErr, IsErrAnd}
use Rattle.std.specs.List.Sorted.{IsPartitionPoint, IsNonDecreasingBy}
use Rattle.std.proofs.lemmas.Bool.{cases_Bool, cases_eq, cases_lt, true≢false, ne_eqb, eq-eqb, and_left, and_right}
use Rattle.std.proofs.lemmas.List.{length-take, get_or-take}
use Rattle.std.proofs.lemmas.List.Elements.{All-take}
use Rattle.std.proofs.lemmas.Int.{ints}
use Rattle.gate_values.specs.declared.logic.Logic.{Logic}
use Rattle.gate_values.specs.declared.logic.Logic.TheVariants.{Zero, One, X, Z}
use Rattle.gate_values.specs.Changes.{same}
use Rattle.gate_values.proofs.ChangeLists.{same_is, same_refl}
use Rattle.warp_process.specs.declared.entry.Entry.{Entry}
use Rattle.warp_process.specs.declared.message.Message.{Message}
use Rattle.warp_process.specs.Entries.{number_of, with_number, bump_of, weight_of, is_within, effective_of}
use Rattle.warp_process.specs.View.{View, Saved, entry_of, effective_at, is_busy}
use Rattle.warp_process.specs.Lawful.{IsLawful, IsSaved, AreSpaced, AreSaved}
use Rattle.warp_process.specs.Receive.{IsTaken, IsRefusal, does_tell}
use Rattle.warp_process.specs.Shown.Receive.{IsPut, IsAdmitted}
use Rattle.warp_process.specs.declared.fault.BlockFault.{BlockFault}
use Rattle.warp_process.specs.declared.fault.BlockFault.TheVariants.{Memory}
use Rattle.warp_process.proofs.SavingBusy.{busy_agree}
use Rattle.warp_process.proofs.SavingStates.{all_kept, spaced_kept, spaced_cut}
use Rattle.warp_process.proofs.SavingStep.{saved_marks}

-- the number of a value, after a change of another one or of the same
number-with : (e : Entry) (v : Logic) (k : ℤ) (x : Logic) → number_of (with_number e v k) x ≡ cond (same v x) k (number_of e x)
number-with e Zero k Zero = refl
number-with e Zero k One = refl
number-with e Zero k X = refl
number-with e Zero k Z = refl
number-with e One k Zero = refl
number-with e One k One = refl
number-with e One k X = refl
number-with e One k Z = refl
number-with e X k Zero = refl
number-with e X k One = refl
number-with e X k X = refl
number-with e X k Z = refl
number-with e Z k Zero = refl
number-with e Z k One = refl
number-with e Z k X = refl
number-with e Z k Z = refl

same_number : (e : Entry) (v x : Logic) → same v x ≡ true → number_of e x ≡ number_of e v
same_number e Zero Zero h = refl
same_number e One One h = refl
same_number e X X h = refl
same_number e Z Z h = refl
same_number e Zero One h = cc
same_number e Zero X h = cc
same_number e Zero Z h = cc
same_number e One Zero h = cc
same_number e One X h = cc
same_number e One Z h = cc
same_number e X Zero h = cc
same_number e X One h = cc
same_number e X Z h = cc
same_number e Z Zero h = cc
same_number e Z One h = cc
same_number e Z X h = cc

zero_more : (k : ℤ) → k ≡ k +ℤ pos 0
zero_more k = omega (arith, ints)

-- a bump changes the one number by the message
bump-numbers : (e e' : Entry) (m : Message) → bump_of e m.value m.sign ≡ Some e' → (x : Logic) → number_of e' x ≡ number_of e x +ℤ cond (same m.value x) (weight_of m.sign) (pos 0)
bump-numbers e e' m h x = go (is_within (number_of e m.value +ℤ weight_of m.sign)) h
  where
    k : ℤ
    k = number_of e m.value +ℤ weight_of m.sign

    go : (b : Bool) → cond b (Some (with_number e m.value (number_of e m.value +ℤ weight_of m.sign))) None ≡ Some e' → number_of e' x ≡ number_of e x +ℤ cond (same m.value x) (weight_of m.sign) (pos 0)
    go false h = cc
    go true h =
        let is : e' ≡ with_number e m.value (number_of e m.value +ℤ weight_of m.sign) = cc in
        ap (λ (d : Entry). number_of d x) is ∙ (number-with e m.value (number_of e m.value +ℤ weight_of m.sign) x
        ∙ elim (cases_Bool (same m.value x)) [
          | inl this ↦ rw this (ap (λ (n : ℤ). n +ℤ weight_of m.sign) (sym (same_number e m.value x this)))
          | inr other ↦ rw other (zero_more (number_of e x))
        ])

module _ (v w : View) (m : Message) (slot : ℕ) (entry : Entry) (admitted : IsAdmitted v m slot entry) (put : IsPut v w m.net m.time entry) where
  new_entry : entry_of w m.net m.time ≡ entry
  new_entry = put.entries m.net m.time ∙ rw (eq-eqb m.net m.net refl, eq-eqb m.time m.time refl) refl

  -- one number changes by the message, and no other does
  put_numbers : (n t : ℕ) (x : Logic) → number_of (entry_of w n t) x ≡ number_of (entry_of v n t) x +ℤ cond (does_tell m n t x) (weight_of m.sign) (pos 0)
  put_numbers n t x = elim (cases_eq m.net n) [
    | inl here ↦ (elim (cases_eq m.time t) [
      | inl now ↦ subst (λ (j : ℕ). number_of (entry_of w j t) x ≡ number_of (entry_of v j t) x +ℤ cond (does_tell m j t x) (weight_of m.sign) (pos 0)) here
          (subst (λ (u : ℕ). number_of (entry_of w m.net u) x ≡ number_of (entry_of v m.net u) x +ℤ cond (does_tell m m.net u x) (weight_of m.sign) (pos 0)) now
          (ap (λ (e : Entry). number_of e x) new_entry
          ∙ (bump-numbers (entry_of v m.net m.time) entry m admitted.bumped x
          ∙ rw (eq-eqb m.net m.net refl, eq-eqb m.time m.time refl) refl)))
      | inr later ↦ (let apart : t ≢ m.time = λ e. later (sym e) in
          ap (λ (e : Entry). number_of e x) (put.entries n t ∙ ap (λ b. cond b entry (entry_of v n t)) (and_right (n == m.net) (t == m.time) (ne_eqb t m.time apart)))
          ∙ (zero_more (number_of (entry_of v n t) x) ∙ rw (ne_eqb m.time t later, eq-eqb m.net n here) refl))
    ])
    | inr there ↦ (let apart : n ≢ m.net = λ e. there (sym e) in
        ap (λ (e : Entry). number_of e x) (put.entries n t ∙ ap (λ b. cond b entry (entry_of v n t)) (and_left (n == m.net) (t == m.time) (ne_eqb n m.net apart)))
        ∙ (zero_more (number_of (entry_of v n t) x) ∙ rw (ne_eqb m.net n there) refl))
  ]

  -- the new effective value
  effective_new : effective_at w m.net m.time ≡ effective_of entry
  effective_new = ap effective_of new_entry

  -- at other times the effective values are as they were
  effective_other : (n t : ℕ) → t ≢ m.time → effective_at v n t ≡ effective_at w n t
  effective_other n t ne = sym (ap effective_of (put.entries n t ∙ ap (λ b. cond b entry (entry_of v n t)) (and_right (n == m.net) (t == m.time) (ne_eqb t m.time ne))))

  effective_same : effective_of entry ≡ effective_at v m.net m.time → (n t : ℕ) → effective_at v n t ≡ effective_at w n t
  effective_same kept n t = elim (cases_eq t m.time) [
    | inl now ↦ (elim (cases_eq n m.net) [
      | inl here ↦ subst (λ (k : ℕ). effective_at v k t ≡ effective_at w k t) (sym here) (subst (λ (u : ℕ). effective_at v m.net u ≡ effective_at w m.net u) (sym now) (sym kept ∙ sym effective_new))
      | inr there ↦ sym (ap effective_of (put.entries n t ∙ ap (λ b. cond b entry (entry_of v n t)) (and_left (n == m.net) (t == m.time) (ne_eqb n m.net there))))
    ])
    | inr other ↦ effective_other n t other
  ]

  -- a straggler, with its rollback
  pub rolled : w.mark ≡ m.time → (m.time < v.mark) × (effective_of entry ≢ effective_at v m.net m.time) → IsTaken v w m
  rolled mark late = record {
    part = put.part;
    horizon = put.horizon;
    floor = put.floor;
    numbers = put_numbers;
    straggler = λ _. mark;
    in_time = λ not. absurd (not (late.0, λ e. late.1 (sym effective_new ∙ e)));
  }

  -- a message that changes nothing processed
  pub kept : w.mark ≡ v.mark → ((m.time < v.mark) × (effective_of entry ≢ effective_at v m.net m.time) → ⊥) → IsTaken v w m
  kept mark early = record {
    part = put.part;
    horizon = put.horizon;
    floor = put.floor;
    numbers = put_numbers;
    straggler = λ late. absurd (early (late.0, λ e. late.1 (effective_new ∙ e)));
    in_time = λ _. mark;
  }

  module _ (isv : IsLawful v) (isw : IsLawful w) where
    -- busy times below both marks, where the effective values below them agree
    same_below : ((n t : ℕ) → t < w.mark → effective_at v n t ≡ effective_at w n t) → (t : ℕ) → t < v.mark → t < w.mark → is_busy v t ≡ is_busy w t
    same_below agree t l k = busy_agree v w isv isw put.part put.horizon t (omega arith) (omega arith) (λ n u h. agree n u (omega arith))

    below_other : w.mark ≡ m.time → (n t : ℕ) → t < w.mark → effective_at v n t ≡ effective_at w n t
    below_other mark n t l = effective_other n t (let ne : t ≢ m.time = omega arith in ne)

    taken_marks : (ss : List Saved) (k : ℕ) → IsPartitionPoint (λ (s : Saved). s.mark ≤ w.mark) (λ (s : Saved). w.mark < s.mark) ss k → All (λ (s : Saved). s.mark ≤ w.mark) (take k ss)
    taken_marks ss k point j d l =
        let short : j < k = omega (arith, l, length-take k ss) in
        subst (λ (s : Saved). s.mark ≤ w.mark) (sym (get_or-take k ss j d short)) (point.0 j d (omega arith) short)

    taken_saved : w.mark ≡ m.time → m.time ≤ v.mark → (ss : List Saved) → AreSaved v ss → (k : ℕ) → IsPartitionPoint (λ (s : Saved). s.mark ≤ w.mark) (λ (s : Saved). w.mark < s.mark) ss k → AreSaved w (take k ss)
    taken_saved mark back [] saved k point = absurd saved
    taken_saved mark back (s ∷ ss) saved zero point =
        let past = point.1 0 s (omega arith) (omega arith) in
        let first = saved.0 in
        let from = admitted.from in
        absurd (omega (arith, past, first, from, mark))
    taken_saved mark back (s ∷ ss) saved (suc k) point =
        let first = saved.0 in
        let floor = put.floor in
        let here : s.mark ≤ w.mark = point.0 0 s (omega arith) (omega arith) in (
          omega (arith, first, floor),
          spaced_cut v w (same_below (below_other mark)) (omega (arith, mark, back)) s.mark here ss k
              ((λ j d a b. point.0 (suc j) d (omega arith) (omega (arith, b))), (λ j d a b. point.1 (suc j) d (omega (arith, a)) (omega (arith, b)))) saved.1,
        )

    -- the saved states up to the time of a straggler are those of the block after the rollback
    pub rolled_saved : (ss : List Saved) → All (IsSaved v) ss → AreSaved v ss → w.mark ≡ m.time → m.time ≤ v.mark → (k : ℕ) →
        IsPartitionPoint (λ (s : Saved). s.mark ≤ w.mark) (λ (s : Saved). w.mark < s.mark) ss k → All (IsSaved w) (take k ss) × AreSaved w (take k ss)
    rolled_saved ss states saved mark back k point =
        (all_kept v w isv put.part w.mark (below_other mark) (take k ss) (taken_marks ss k point) (All-take (IsSaved v) k ss states), taken_saved mark back ss saved k point)

    kept_spaced : w.mark ≡ v.mark → ((n t : ℕ) → t < v.mark → effective_at v n t ≡ effective_at w n t) → (ss : List Saved) → AreSaved v ss → AreSaved w ss
    kept_spaced mark agree [] saved = absurd saved
    kept_spaced mark agree (s ∷ ss) saved =
        let first = saved.0 in
        let floor = put.floor in
        (omega (arith, first, floor), spaced_kept v w (same_below (λ n t l. agree n t (omega (arith, mark, l)))) mark s.mark ss saved.1)

    -- the saved states are those of the block with the entry
    pub kept_saved : (ss : List Saved) → All (IsSaved v) ss → AreSaved v ss → w.mark ≡ v.mark → (v.mark ≤ m.time) ⊎ (effective_of entry ≡ effective_at v m.net m.time) → All (IsSaved w) ss × AreSaved w ss
    kept_saved ss states saved mark early =
        let agree : (n t : ℕ) → t < v.mark → effective_at v n t ≡ effective_at w n t =
        λ n t l. elim early [ inl late ↦ effective_other n t (let ne : t ≢ m.time = omega arith in ne) | inr kept ↦ effective_same kept n t ] in
        (all_kept v w isv put.part v.mark agree ss (saved_marks v ss saved) states, kept_spaced mark agree ss saved)

-- a want of memory is no refusal of the message
pub refused_memory : {A : Type 0} → (r : Result A BlockFault) (refusal : Option BlockFault) → IsErrAnd r (λ f. f ≡ Memory) → refusal ≡ None → IfErr r (IsRefusal refusal)
refused_memory (Ok x) refusal h e = tt
refused_memory (Err f) refusal h e = subst (IsRefusal refusal) (sym h) e

-- the marks of saved states rise
above : (v : View) (m : ℕ) (ss : List Saved) → AreSpaced v m ss → (j : ℕ) (d : Saved) → j < length ss → m < (get_or ss j d).mark
above v m [] h j d l = absurd (omega arith)
above v m (s ∷ ss) h zero d l = h.0
above v m (s ∷ ss) h (suc j) d l = (let first = h.0 in let rest = above v s.mark ss h.3 j d (omega arith) in omega (arith, first, rest))

spaced_rise : (v : View) (s : Saved) (ss : List Saved) → AreSpaced v s.mark ss → (i j : ℕ) (d : Saved) → i ≤ j → j < length (s ∷ ss) → (get_or (s ∷ ss) i d).mark ≤ (get_or (s ∷ ss) j d).mark
spaced_rise v s ss h zero zero d l k = omega arith
spaced_rise v s ss h zero (suc j) d l k = (let more = above v s.mark ss h j d (omega arith) in omega (arith, more))
spaced_rise v s ss h (suc i) zero d l k = absurd (omega arith)
spaced_rise v s [] h (suc i) (suc j) d l k = absurd (omega arith)
spaced_rise v s (r ∷ ss) h (suc i) (suc j) d l k = spaced_rise v r ss h.3 i j d (omega arith) (omega arith)

pub saved_rise : (v : View) (ss : List Saved) → AreSaved v ss → IsNonDecreasingBy (λ (s : Saved). s.mark) ss
saved_rise v [] h = absurd h
saved_rise v (s ∷ ss) h = spaced_rise v s ss h.1

-- effective values that don't differ are the same
pub same_value : (x y : Logic) → ((x ≡ y → ⊥) → ⊥) → x ≡ y
same_value x y h = elim (cases_Bool (same x y)) [
  | inl this ↦ same_is x y this
  | inr other ↦ absurd (h (λ e. true≢false (sym (same_refl x) ∙ (ap (same x) e ∙ other))))
]

same_effective : (a b : Option Logic) → ((a ≡ b → ⊥) → ⊥) → a ≡ b
same_effective None None h = refl
same_effective None (Some y) h = absurd (h (λ e. cc))
same_effective (Some x) None h = absurd (h (λ e. cc))
same_effective (Some x) (Some y) h = ap Some (same_value x y (λ differ. h (λ e. differ (let same_inside : x ≡ y = cc in same_inside))))

-- what is no straggler is not below the mark, or changes no effective value
pub not_late : (time mark : ℕ) (a b : Option Logic) → ((time < mark) × (a ≢ b) → ⊥) → (mark ≤ time) ⊎ (a ≡ b)
not_late time mark a b h = elim (cases_lt time mark) [
  | inl below ↦ inr (same_effective a b (λ differ. h (below, differ)))
  | inr above ↦ inl above
]
