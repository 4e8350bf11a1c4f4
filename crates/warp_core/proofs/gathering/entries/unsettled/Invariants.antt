use Rattle.std.proofs.Common.{ℕ, ◌<◌}
use Rattle.warp_core.specs.Matched.{seen_at, AreSettled}
use Rattle.warp_core.proofs.gathering.entries.unsettled.Given as goal

abbrev pub invariant-loop-block : goal.invariant-loop-block
invariant-loop-block g l = (b : ℕ) → b < l.block → AreSettled (seen_at l.blocks b)
