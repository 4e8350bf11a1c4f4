use Rattle.std.proofs.Common.{◌≤◌, ◌<◌, ◌+◌, ◌-◌, ℕ, get_or, IsSome}
use Rattle.warp_process.specs.View.{effective_at}
use Rattle.warp_process.proofs.heard.Heard.next_effective.Given as goal

abbrev pub invariant-loop-start : goal.invariant-loop-start
invariant-loop-start l = record {
  later : l.from ≤ l.start;
  passed : (t : ℕ) → l.from ≤ t → t < l.start → IsSome (effective_at l.self (get_or l.self.part.nets l.slot 0) t) → ⊥;
}

abbrev pub decreases-loop-start : goal.decreases-loop-start
decreases-loop-start l = l.self.horizon + 1 - l.start
