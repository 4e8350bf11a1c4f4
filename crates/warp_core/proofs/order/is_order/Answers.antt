use Rattle.warp_core.proofs.Ordering.{order_from, order_met, none_set}
use Rattle.warp_core.proofs.order.is_order.Goals as goal

pub meet_each-requires-clause-none : goal.meet_each-requires-clause-none
meet_each-requires-clause-none c = none_set 1024

pub returns-then-meet_each : goal.returns-then-meet_each
returns-then-meet_each c = (
  λ all. order_from c.args.count c.args.order.now c.meet_each.new.met (c.meet_each.ensures.met c.if-meet_each.true) (c.are_met.ensures.0 all),
  λ is. c.are_met.ensures.1 (order_met c.args.count c.args.order.now c.meet_each.new.met (c.meet_each.ensures.met c.if-meet_each.true) is),
)
