use Rattle.warp_block.proofs.Looking.{change_some, change_none}
use Rattle.warp_block.proofs.look.next_change.Goals as goal

pub returns-in_err-change : goal.returns-in_err-change
returns-in_err-change c =
    rw c.from_residual.ensures (change_none c.args.log.now c.args.from c.count_before.result c.count_before.ensures c.in_err-change.ensures.lookup.3)

pub returns : goal.returns
returns c =
    let read = c.in_ok-change.ensures.lookup in
    change_some c.args.log.now c.args.from c.count_before.result c.in_ok-change.change.now c.requires c.count_before.ensures read.3.0 read.1
