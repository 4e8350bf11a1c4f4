use Rattle.std.proofs.Common.{◌≤◌, ◌-◌, List, [], length}
use Rattle.net_waves.specs.declared.timeline.Stop.{Stop}
use Rattle.history_waves.specs.Inner.Pending.{AreMore}
use Rattle.history_waves.proofs.telling.tell_given.Given as goal

-- so many of the given changes are told
abbrev pub invariant-loop-next : goal.invariant-loop-next
invariant-loop-next g l = (l.next ≤ length l.given) × ((more : List Stop) × g.T.Taker.took l.fn.taker l.taker more × AreMore l.given l.from l.next [] more)

abbrev pub decreases-loop-next : goal.decreases-loop-next
decreases-loop-next g l = length l.given - l.next
