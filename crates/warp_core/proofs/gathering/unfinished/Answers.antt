use Rattle.std.proofs.Common.{subst, sym, arith}
use Rattle.warp_process.specs.View.{IsDone}
use Rattle.warp_core.proofs.Sweeping.{seen_is, first_block}
use Rattle.warp_core.proofs.gathering.unfinished.Goals as goal

pub returns-then-not-done : goal.returns-then-not-done
returns-then-not-done g c =
    let e = seen_is c.args.blocks.now c.loop-block.block c.index-blocks-block.result (omega arith) c.index-blocks-block.is in
    first_block c.args.cut.now c.args.blocks.now (λ _ v. IsDone v) c.loop-block.block (omega arith) c.loop-block.invariant
    (λ all. (let yes = c.done.ensures.1 (subst IsDone (sym e) all) in let no = c.if-not-done.true in cc))
