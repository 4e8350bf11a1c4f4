use Rattle.std.proofs.Common.{below_more, arith, subst}
use Rattle.warp_process.specs.View.{View}
use Rattle.warp_core.specs.Matched.{seen_at, AreSettled}
use Rattle.warp_core.specs.Gather.{IsFirstUnsettled}
use Rattle.warp_core.proofs.Sweeping.{seen_is, first_block}
use Rattle.warp_core.proofs.gathering.entries.unsettled.Goals as goal

pub returns-in-Some : goal.returns-in-Some
returns-in-Some g c =
    let e = seen_is c.args.blocks.now c.loop-block.block c.index-blocks-block.result (omega arith) c.index-blocks-block.is in
    let first : IsFirstUnsettled (seen_at c.args.blocks.now c.loop-block.block) c.in-Some.net c.in-Some.time =
    subst (λ (v : View). IsFirstUnsettled v c.in-Some.net c.in-Some.time) e c.in-Some.ensures in
    (first_block c.args.cut.now c.args.blocks.now (λ _ v. AreSettled v) c.loop-block.block (omega arith) c.loop-block.invariant (λ all. first.0.fails (all c.in-Some.net)), first)

pub loop-block-preserved : goal.loop-block-preserved
loop-block-preserved g c =
    let e = seen_is c.args.blocks.now c.loop-block.block c.index-blocks-block.result (omega arith) c.index-blocks-block.is in
    below_more (λ b. AreSettled (seen_at c.args.blocks.now b)) c.loop-block.block c.loop-block.invariant (subst AreSettled e c.in-None.ensures)
