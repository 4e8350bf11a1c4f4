use Rattle.warp_stores.proofs.Seats.{half_left, half_right}
use Rattle.warp_stores.proofs.least.half_by.Goals as goal

pub returns-then-nodes-node : goal.returns-then-nodes-node
returns-then-nodes-node c = half_left c.args.time c.args.seat c.requires.seat c.requires.wide c.if-nodes-node.true

pub returns : goal.returns
returns c = half_right c.args.time c.args.seat c.requires.tournament c.requires.seat c.requires.wide c.requires.found c.if-nodes-node.false
