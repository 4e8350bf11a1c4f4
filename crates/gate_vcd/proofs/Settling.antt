-- A change after others that aren't later.
use Rattle.std.proofs.Common.{◌≡◌, ℕ, zero, suc, ◌+◌, ◌-◌, ◌<◌, ◌≤◌, true, false, cond, nat_le, nat_eq, List, [], ◌∷◌, ◌++◌, length, take, slice_get, Some, refl, ap, sym, ◌∙◌, arith, length-append}
use Rattle.std.specs.Option.{option_map_or}
use Rattle.std.specs.List.{AllByRecursion}
use Rattle.std.proofs.lemmas.Bool.Decides.{nat_tests}
use Rattle.std.proofs.lemmas.Grind.{common_steps}
use Rattle.gate_values.specs.declared.logic.Logic.{Logic}
use Rattle.gate_values.specs.declared.logic.Logic.TheVariants.{X}
use Rattle.gate_values.specs.declared.logic.Change.{Change}
use Rattle.gate_values.specs.Changes.{changes, change_at, just_before, latest, last_value, same}
use Rattle.gate_values.proofs.ChangeLists.{changes-agree, changes-quiet, last_value-changes}
use Rattle.gate_stimulus.proofs.ChangesOf.{AreBelow, changes-below}
use Rattle.gate_vcd.specs.Inner.Settled.{value_after, ends_at, undone, settled}

abbrev pub AreUpTo : ℕ → List Change → Type 0
AreUpTo t cs = AllByRecursion (λ (c : Change). c.time ≤ t) cs

append-nil : (xs : List Change) → xs ++ [] ≡ xs
append-nil xs = grind (arith, common_steps)

le_true : (n t : ℕ) → n ≤ t → nat_le n t ≡ true
le_true n t h = grind (arith, nat_tests)

le_false : (n t : ℕ) → t < n → nat_le n t ≡ false
le_false n t h = grind (arith, nat_tests)

pub latest-append : (v : Logic) (cs : List Change) (c : Change) (t : ℕ) → latest v (cs ++ c ∷ []) t ≡ cond (nat_le c.time t) c.value (latest v cs t)
unfolding latest
latest-append v [] c t = refl
latest-append v (d ∷ cs) c t = latest-append (cond (nat_le d.time t) d.value v) cs c t

-- nothing changes after the last change
pub latest-flat : (v : Logic) (cs : List Change) (t u : ℕ) → AreUpTo t cs → t ≤ u → latest v cs u ≡ latest v cs t
unfolding latest
latest-flat v [] t u a h = refl
latest-flat v (c ∷ cs) t u a h =
    let now : nat_le c.time t ≡ true = le_true c.time t a.0 in
    let later : nat_le c.time u ≡ true = le_true c.time u (omega (arith, a.0)) in
    rw (now, later) (latest-flat c.value cs t u a.1 h)

flat-changes : (f : ℕ → Logic) (t k : ℕ) → ((u : ℕ) → t ≤ u → f u ≡ f t) → changes f (suc t + k) ≡ changes f (suc t)
flat-changes f t zero h = ap (changes f) (let e : suc t + 0 ≡ suc t = omega arith in e)
flat-changes f t (suc k) h =
    let e : suc t + suc k ≡ suc (suc (t + k)) = omega arith in
    let d : suc t + k ≡ suc (t + k) = omega arith in
    let still : f (suc (t + k)) ≡ f (t + k) = h (suc (t + k)) (omega arith) ∙ sym (h (t + k) (omega arith)) in
    rw e (changes-quiet f (suc (t + k)) still ∙ rw (← d) (flat-changes f t k h))

-- a function that stays from a time on has no change past it
pub changes-flat : (f : ℕ → Logic) (t b : ℕ) → t < b → ((u : ℕ) → t ≤ u → f u ≡ f t) → changes f b ≡ changes f (suc t)
changes-flat f t b l h = ap (changes f) (let e : b ≡ suc t + (b - suc t) = omega arith in e) ∙ flat-changes f t (b - suc t) h

-- what ends at a time
ends-below : (t : ℕ) (cs : List Change) (i : ℕ) → AreBelow t cs → ends_at t (slice_get cs i) ≡ false
ends-below t [] i a = refl
ends-below t (c ∷ cs) zero a = let l : c.time < t = a.0 in grind (arith, nat_tests)
ends-below t (c ∷ cs) (suc i) a = ends-below t cs i a.1

undone-below : (t : ℕ) (cs : List Change) → AreBelow t cs → undone t cs ≡ cs
undone-below t cs a = rw (ends-below t cs (length cs - 1) a) refl

slice_get-last : (cs : List Change) (c : Change) → slice_get (cs ++ c ∷ []) (length cs) ≡ Some c
slice_get-last [] c = refl
slice_get-last (d ∷ cs) c = slice_get-last cs c

take-front : (cs : List Change) (c : Change) → take (length cs) (cs ++ c ∷ []) ≡ cs
take-front [] c = refl
take-front (d ∷ cs) c = ap (λ ds. d ∷ ds) (take-front cs c)

undone-last : (cs : List Change) (c : Change) → undone c.time (cs ++ c ∷ []) ≡ cs
undone-last cs c =
    let e : length (cs ++ c ∷ []) - 1 ≡ length cs = omega (arith, length-append cs (c ∷ [])) in
    let own : nat_eq c.time c.time ≡ true = grind (arith, nat_tests) in
    rw (e, slice_get-last cs c, own) (take-front cs c)

value_after-cons : (v : Logic) (d : Change) (cs : List Change) → last_value v (d ∷ cs) ≡ option_map_or (λ (c : Change). c.value) (slice_get (d ∷ cs) (length (d ∷ cs) - 1)) X
value_after-cons v d [] = refl
value_after-cons v d (c ∷ cs) =
    let e : length (d ∷ c ∷ cs) - 1 ≡ suc (length (c ∷ cs) - 1) = omega arith in
    rw e (value_after-cons d.value c cs)

value_after-is : (cs : List Change) → value_after cs ≡ last_value X cs
value_after-is [] = refl
value_after-is (d ∷ cs) = sym (value_after-cons X d cs)

-- a further change of a function that stays from its time on
module _ (cs : List Change) (c : Change) (b : ℕ) (up : AreUpTo c.time cs) (in_time : c.time < b) where
  abbrev f : ℕ → Logic
  f t = latest X cs t

  abbrev g : ℕ → Logic
  g t = latest X (cs ++ c ∷ []) t

  before_it : (u : ℕ) → u < c.time → g u ≡ f u
  before_it u h = latest-append X cs c u ∙ rw (le_false c.time u h) refl

  from_it : (u : ℕ) → c.time ≤ u → g u ≡ c.value
  from_it u h = latest-append X cs c u ∙ rw (le_true c.time u h) refl

  f-ends : changes f b ≡ changes f (suc c.time)
  f-ends = changes-flat f c.time b in_time (λ u h. latest-flat X cs c.time u up h)

  g-ends : changes g b ≡ changes g (suc c.time)
  g-ends = changes-flat g c.time b in_time (λ u h. from_it u h ∙ sym (from_it c.time (omega arith)))

  undone-f : undone c.time (changes f (suc c.time)) ≡ changes f c.time
  unfolding changes
  undone-f =
      elim (same (f c.time) (just_before f c.time)) as (λ s. undone c.time (changes f c.time ++ cond s [] (record { time = c.time; value = f c.time } ∷ [])) ≡ changes f c.time) [
        | true ↦ rw (append-nil (changes f c.time)) (undone-below c.time (changes f c.time) (changes-below f c.time))
        | false ↦ undone-last (changes f c.time) (record { time = c.time; value = f c.time })
      ]

  before-same : (t : ℕ) → t ≤ c.time → just_before g t ≡ just_before f t
  before-same zero h = refl
  before-same (suc t) h = before_it t (omega arith)

  at-it : change_at g c.time ≡ (cond (same c.value (just_before f c.time)) [] (c ∷ []))
  at-it = rw (from_it c.time (omega arith), before-same c.time (omega arith)) refl

  g-is : changes g (suc c.time) ≡ changes f c.time ++ cond (same c.value (just_before f c.time)) [] (c ∷ [])
  unfolding changes
  g-is = rw (changes-agree g f c.time before_it, at-it) refl

  -- the list of changes with it
  pub settled-changes : settled (changes f b) c ≡ changes g b
  settled-changes = rw (f-ends, g-ends, undone-f, value_after-is (changes f c.time), last_value-changes f c.time) (sym g-is)
