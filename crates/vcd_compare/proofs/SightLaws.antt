-- The bits of two dumps as they are looked at.
use Rattle.std.proofs.Common.{◌≡◌, ℕ, zero, suc, ◌+◌, ◌<◌, ◌^◌, List, [], ◌∷◌, length, get_or, Option, sym, subst, arith}
use mathlib.Core.Path.{fun_ext}
use Rattle.gate_values.specs.declared.logic.Logic.{Logic}
use Rattle.gate_values.specs.declared.logic.Logic.TheVariants.{X}
use Rattle.gate_values.specs.declared.logic.Change.{Change}
use Rattle.gate_values.specs.Changes.{latest}
use Rattle.gate_stimulus.specs.Given.{last_stamp, AreItsChanges}
use Rattle.gate_stimulus.proofs.ChangesOf.{AreBelow, changes-below}
use Rattle.gate_stimulus.proofs.Laid.{its_rising}
use Rattle.bit_compare.specs.declared.difference.Difference.{Difference}
use Rattle.bit_compare.specs.declared.difference.Tolerance.{Tolerance}
use Rattle.bit_compare.specs.declared.times.Times.{Times}
use Rattle.bit_compare.specs.Agreement.{IsFinding}
use Rattle.bit_compare.specs.Shown.Moments.{AreRising, IsSmall, lens}

below-at : (b : ℕ) (cs : List Change) (i : ℕ) (d : Change) → AreBelow b cs → i < length cs → (get_or cs i d).time < b
below-at b [] i d a h = absurd (omega arith)
below-at b (c ∷ cs) zero d a h = a.0
below-at b (c ∷ cs) (suc i) d a h = below-at b cs i d a.1 (omega arith)

pub changes-rise : (cs : List Change) → AreItsChanges cs → AreRising cs
changes-rise cs e = its_rising cs e

pub changes-small : (cs : List Change) (scale later earlier : ℕ) → AreItsChanges cs → scale < 2 ^ 60 → later < 2 ^ 126 → earlier < 2 ^ 126 → IsSmall (lens scale later earlier) cs
changes-small cs scale later earlier e s l r = record {
  scale = s;
  earlier = r;
  later = l;
  times = λ i d h. (let b = below-at (last_stamp + 1) cs i d (subst (AreBelow (last_stamp + 1)) (sym e) (changes-below (latest X cs) (last_stamp + 1))) h in omega (arith, b));
}

-- what is found of bits is found of those that show the same
pub found-same : (how : Tolerance) (times : Times) (e f a b : ℕ → Logic) (o : Option Difference) → ((t : ℕ) → e t ≡ f t) → ((t : ℕ) → a t ≡ b t) → IsFinding how times e a o → IsFinding how times f b o
found-same how times e f a b o he ha h = subst (λ (y : ℕ → Logic). IsFinding how times f y o) (fun_ext ha) (subst (λ (x : ℕ → Logic). IsFinding how times x a o) (fun_ext he) h)
