use Rattle.std.proofs.Common.{◌≡◌, ◌≤◌, ℕ, [], get_or}
use Rattle.warp_gates.proofs.clocked.end_of.Given as goal

abbrev pub invariant-loop-end : goal.invariant-loop-end
invariant-loop-end l = (l.end ≤ l.places) × ((place : ℕ) → l.end ≤ place → get_or l.rows place [] ≡ [])

abbrev pub decreases-loop-end : goal.decreases-loop-end
decreases-loop-end l = l.end
