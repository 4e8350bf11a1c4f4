use Rattle.std.proofs.Common.{ℕ, ◌<◌}
use Rattle.warp_process.specs.Lawful.{IsLawful}
use Rattle.warp_core.specs.Matched.{seen_at}
use Rattle.warp_core.proofs.gathering.laws.Given as goal

abbrev pub invariant-loop-block : goal.invariant-loop-block
invariant-loop-block g l = (b : ℕ) → b < l.block-index → IsLawful (seen_at l.blocks b)
