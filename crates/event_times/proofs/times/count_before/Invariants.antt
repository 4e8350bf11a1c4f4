use Rattle.std.proofs.Common.{◌≤◌, length, drop}
use Rattle.std.specs.List.{AllByRecursion}
use Rattle.event_times.proofs.times.count_before.Given as goal

abbrev pub invariant-loop-left : goal.invariant-loop-left
invariant-loop-left l = (l.left ≤ length l.times.items) × AllByRecursion (λ t. l.time ≤ t) (drop l.left l.times.items)

abbrev pub decreases-loop-left : goal.decreases-loop-left
decreases-loop-left l = l.left
