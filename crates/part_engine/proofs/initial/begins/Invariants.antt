use Rattle.std.proofs.Common.{◌≡◌, ◌<◌, ℕ, false}
use Rattle.part_engine.specs.Inner.Firsts.{begins_at}
use Rattle.part_engine.proofs.initial.begins.Given as goal

abbrev pub invariant-loop-slot : goal.invariant-loop-slot
invariant-loop-slot l = (k : ℕ) → k < l.slot → begins_at l.part k ≡ false
