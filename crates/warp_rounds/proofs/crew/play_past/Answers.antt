use Rattle.std.proofs.Common.{refl}
use Rattle.warp_rounds.proofs.Working.{visits_stall}
use Rattle.warp_rounds.proofs.crew.play_past.Goals as goal

pub returns-then-played-order-clause-fault : goal.returns-then-played-order-clause-fault
returns-then-played-order-clause-fault g c = (refl, visits_stall c.args.order.floor c.args.order.window c.in_ok-played.played.least c.requires.floor c.in_ok-played.ensures.visits c.if-played-order.true)
