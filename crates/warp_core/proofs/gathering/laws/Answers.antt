use Rattle.std.proofs.Common.{below_more, subst}
use Rattle.warp_process.specs.Lawful.{IsLawful}
use Rattle.warp_core.specs.Matched.{seen_at}
use Rattle.warp_core.proofs.Sweeping.{seen_is}
use Rattle.warp_core.proofs.gathering.laws.Goals as goal

pub loop-block-preserved : goal.loop-block-preserved
loop-block-preserved g c =
    let e = seen_is c.args.blocks.now c.loop-block.block-index c.block-item.result c.loop-block-test.true c.block-item.is in
    below_more (λ b. IsLawful (seen_at c.args.blocks.now b)) c.loop-block.block-index c.loop-block.invariant (subst IsLawful e c.law.ensures.seen)
