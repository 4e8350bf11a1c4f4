use Rattle.std.proofs.Common.{ℕ, ◌<◌}
use Rattle.warp_part.specs.Inner.SamePart.{SameAt}
use Rattle.warp_part.proofs.part.Part.is_same_everywhere.Given as goal

abbrev pub invariant-loop-slot : goal.invariant-loop-slot
invariant-loop-slot l = (i : ℕ) → i < l.slot → SameAt l.self l.other i
