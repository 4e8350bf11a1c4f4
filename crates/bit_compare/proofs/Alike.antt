-- Bits with the same changes agree at all times.
use Rattle.std.proofs.Common.{◌≡◌, ℕ, refl, sym, arith, inl, inr, None}
use Rattle.bit_compare.specs.declared.difference.Tolerance.{Tolerance}
use Rattle.bit_compare.specs.declared.shown.Shown.{Shown}
use Rattle.bit_compare.specs.declared.times.Times.{Times}
use Rattle.bit_compare.specs.Agreement.{Agrees, IsFinding}
use Rattle.bit_compare.specs.Inner.Moments.{IsSame}
use Rattle.bit_compare.specs.Shown.Moments.{shown}

same-shown : (s r : Shown) → IsSame s r → (t : ℕ) → shown s t ≡ shown r t
same-shown s r h t = rw (h.first, h.scale, h.later, h.earlier, h.changes) refl

same-agrees : (how : Tolerance) (s r : Shown) → IsSame s r → (t : ℕ) → Agrees how (shown s) (shown r) t
same-agrees how s r h t = inr ((t, (omega arith, omega arith), sym (same-shown s r h t)), inl (t, (omega arith, omega arith), same-shown s r h t))

pub same-finding : (how : Tolerance) (times : Times) (s r : Shown) → IsSame s r → IsFinding how times (shown s) (shown r) None
same-finding how times s r h = λ t compared. same-agrees how s r h t
