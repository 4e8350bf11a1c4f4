-- The changes of a function: below their end, at rising times, and none where it is x.
use Rattle.std.proofs.Common.{◌≡◌, ℕ, zero, suc, ◌<◌, ◌≤◌, true, false, cond, List, [], ◌∷◌, ◌++◌, length, get_or, refl, arith, length-append, inl, inr}
use Rattle.std.specs.List.{AllByRecursion}
use Rattle.std.proofs.lemmas.Bool.{cases_eq}
use Rattle.std.proofs.lemmas.Grind.{common_steps}
use Rattle.std.proofs.Math.Seq.{get_or-append_seam}
use Rattle.std.proofs.Math.ListN.{get_or-append}
use Rattle.gate_values.specs.declared.logic.Logic.{Logic}
use Rattle.gate_values.specs.declared.logic.Logic.TheVariants.{X}
use Rattle.gate_values.specs.declared.logic.Change.{Change}
use Rattle.gate_values.specs.Changes.{changes, change_at, just_before, latest, same}
use Rattle.net_waves.specs.Inner.Lists.{IsRising}

pub latest-none : (t : ℕ) → latest X [] t ≡ X
unfolding latest
latest-none t = refl

pub changes-none : (f : ℕ → Logic) (b : ℕ) → ((t : ℕ) → f t ≡ X) → changes f b ≡ []
unfolding changes
changes-none f zero h = refl
changes-none f (suc zero) h = rw (h 0) refl
changes-none f (suc (suc t)) h = rw (changes-none f (suc t) h, h (suc t), h t) refl

abbrev pub AreBelow : ℕ → List Change → Type 0
AreBelow t cs = AllByRecursion (λ (c : Change). c.time < t) cs

below_more : (a b : ℕ) (cs : List Change) → a ≤ b → AreBelow a cs → AreBelow b cs
below_more a b [] h all = tt
below_more a b (c ∷ cs) h all = (omega (arith, all.0), below_more a b cs h all.1)

below-append : (b : ℕ) (cs ds : List Change) → AreBelow b cs → AreBelow b ds → AreBelow b (cs ++ ds)
below-append b [] ds x y = y
below-append b (c ∷ cs) ds x y = (x.0, below-append b cs ds x.1 y)

pub changes-below : (f : ℕ → Logic) (b : ℕ) → AreBelow b (changes f b)
unfolding changes
changes-below f zero = tt
changes-below f (suc t) = below-append (suc t) (changes f t) (change_at f t) (below_more t (suc t) (changes f t) (omega arith) (changes-below f t))
    (elim (same (f t) (just_before f t)) as (λ s. AreBelow (suc t) (cond s [] (record { time = t; value = f t } ∷ []))) [ true ↦ tt | false ↦ (omega arith, tt) ])

below-at : (b : ℕ) (cs : List Change) (i : ℕ) (d : Change) → AreBelow b cs → i < length cs → (get_or cs i d).time < b
below-at b [] i d a h = absurd (omega arith)
below-at b (c ∷ cs) zero d a h = a.0
below-at b (c ∷ cs) (suc i) d a h = below-at b cs i d a.1 (omega arith)

rising-push : (cs : List Change) (c : Change) → IsRising cs → AreBelow c.time cs → IsRising (cs ++ c ∷ [])
rising-push cs c rising below i j d h l = elim (cases_eq j (length cs)) [
  | inl e ↦ (let front : i < length cs = omega arith in
      rw (e, get_or-append_seam cs c [] d, get_or-append cs (c ∷ []) d i front) (below-at c.time cs i d below front))
  | inr n ↦ (let lj : j < length cs = omega (arith, length-append cs (c ∷ [])) in let li : i < length cs = omega arith in
      rw (get_or-append cs (c ∷ []) d i li, get_or-append cs (c ∷ []) d j lj) (rising i j d h lj))
]

append-nil : (cs : List Change) → cs ++ [] ≡ cs
append-nil cs = grind (arith, common_steps)

pub changes-rising : (f : ℕ → Logic) (b : ℕ) → IsRising (changes f b)
unfolding changes
changes-rising f zero = λ i j d h l. absurd (omega arith)
changes-rising f (suc b) =
    elim (same (f b) (just_before f b)) as (λ s. IsRising (changes f b ++ cond s [] (record { time = b; value = f b } ∷ [])))
    [ true ↦ rw (append-nil (changes f b)) (changes-rising f b) | false ↦ rising-push (changes f b) (record { time = b; value = f b }) (changes-rising f b) (changes-below f b) ]
