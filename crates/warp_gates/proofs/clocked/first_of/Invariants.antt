use Rattle.std.proofs.Common.{◌≡◌, ◌≤◌, ◌<◌, ◌-◌, ℕ, [], get_or}
use Rattle.warp_gates.proofs.clocked.first_of.Given as goal

abbrev pub invariant-loop-first : goal.invariant-loop-first
invariant-loop-first l = (l.first ≤ l.places) × ((place : ℕ) → place < l.first → get_or l.rows place [] ≡ [])

abbrev pub decreases-loop-first : goal.decreases-loop-first
decreases-loop-first l = l.places - l.first
