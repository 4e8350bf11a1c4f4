use Rattle.std.proofs.Common.{◌≤◌, ◌-◌}
use Rattle.warp_stores.specs.Inner.Stops.{HaveMore}
use Rattle.warp_stores.proofs.place.count_all.Given as goal

abbrev pub invariant-loop-left : goal.invariant-loop-left
invariant-loop-left l = (l.left ≤ l.count) × HaveMore l.time (l.count - l.left) l.initial.stops.items l.stops.items

abbrev pub decreases-loop-left : goal.decreases-loop-left
decreases-loop-left l = l.left
