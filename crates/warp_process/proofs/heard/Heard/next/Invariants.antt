use Rattle.std.proofs.Common.{◌≤◌, ◌<◌, ◌+◌, ◌-◌, ℕ}
use Rattle.warp_process.proofs.Finding.{IsHeardAt}
use Rattle.warp_process.proofs.heard.Heard.next.Given as goal

abbrev pub invariant-loop-start : goal.invariant-loop-start
invariant-loop-start l = record {
  later : l.from ≤ l.start;
  passed : (t : ℕ) → l.from ≤ t → t < l.start → IsHeardAt l.self t → ⊥;
}

abbrev pub decreases-loop-start : goal.decreases-loop-start
decreases-loop-start l = l.self.horizon + 1 - l.start
