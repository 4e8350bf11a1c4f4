use Rattle.std.proofs.Common.{ℕ, ◌<◌}
use Rattle.warp_process.specs.View.{IsDone}
use Rattle.warp_core.specs.Matched.{seen_at}
use Rattle.warp_core.proofs.gathering.unfinished.Given as goal

abbrev pub invariant-loop-block : goal.invariant-loop-block
invariant-loop-block g l = (b : ℕ) → b < l.block → IsDone (seen_at l.blocks b)
