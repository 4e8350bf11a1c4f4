use Rattle.std.proofs.Common.{◌≡◌, ◌-◌, ◌/◌, ◌<◌, ◌≤◌, get_or, length, drop, set}
use Rattle.warp_stores.specs.Inner.Least.{IsTournamentBut}
use Rattle.warp_stores.proofs.least.put.Given as goal

abbrev pub invariant-loop-node : goal.invariant-loop-node
invariant-loop-node l =
    IsTournamentBut (l.node / 2) l.nodes × (0 < l.node) × (l.node ≤ l.leaf) × (l.least ≡ get_or l.nodes l.node 0)
    × (drop (length l.nodes / 2) l.nodes ≡ set (drop (length l.fn.nodes / 2) l.fn.nodes) (l.leaf - length l.fn.nodes / 2) l.time)

abbrev pub decreases-loop-node : goal.decreases-loop-node
decreases-loop-node l = l.node
