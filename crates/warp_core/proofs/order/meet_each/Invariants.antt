use Rattle.std.proofs.Common.{◌≡◌, take, length}
use Rattle.warp_core.specs.Inner.Order.{IsMet}
use Rattle.warp_core.proofs.order.meet_each.Given as goal

abbrev pub invariant-loop-number : goal.invariant-loop-number
invariant-loop-number l = record {
  met : IsMet l.count (take l.number-index l.order) l.met;
  room : length l.met ≡ length l.fn.met;
}
