use Rattle.std.proofs.Common.{ℕ, ◌<◌, IsTrue, get_or, false}
use Rattle.warp_core.proofs.order.are_met.Given as goal

abbrev pub invariant-loop-number : goal.invariant-loop-number
invariant-loop-number l = (b : ℕ) → b < l.number → IsTrue (get_or l.met b false)
