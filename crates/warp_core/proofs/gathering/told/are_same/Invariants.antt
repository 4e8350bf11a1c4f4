use Rattle.std.proofs.Common.{◌≡◌, ℕ, ◌<◌, get_or}
use Rattle.gate_values.specs.declared.logic.Change.{Change}
use Rattle.warp_core.proofs.gathering.told.are_same.Given as goal

-- the first changes are the same
abbrev pub invariant-loop-at : goal.invariant-loop-at
invariant-loop-at l = (k : ℕ) (d : Change) → k < l.at → get_or l.list k d ≡ get_or l.changes k d
