use Rattle.std.proofs.Common.{◌≤◌, ◌-◌, length}
use Rattle.history_waves.specs.Inner.Pending.{AreGiven}
use Rattle.history_waves.proofs.merging.list_given.Given as goal

-- so many of the given changes are listed
abbrev pub invariant-loop-next : goal.invariant-loop-next
invariant-loop-next l = (l.from ≤ l.next) × (l.next ≤ length l.given) × AreGiven l.given l.from l.next l.time l.fn.moves.items l.moves.items

abbrev pub decreases-loop-next : goal.decreases-loop-next
decreases-loop-next l = length l.given - l.next
