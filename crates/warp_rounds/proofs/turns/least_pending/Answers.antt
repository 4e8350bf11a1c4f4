use Rattle.warp_rounds.proofs.Pending.{pending_more, pending_all}
use Rattle.warp_rounds.proofs.turns.least_pending.Goals as goal

pub loop-message-preserved : goal.loop-message-preserved
loop-message-preserved g c = rw c.earlier-least.ensures (pending_more c.args.block.now.seen c.args.messages.now _ _ _ c.loop-message-test.true c.loop-message.invariant)

pub returns : goal.returns
returns g c = pending_all c.args.block.now.seen c.args.messages.now _ _ c.loop-message-test.false c.loop-message.invariant
