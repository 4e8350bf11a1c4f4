use Rattle.std.proofs.Common.{◌≤◌, List, length}
use Rattle.net_waves.specs.declared.timeline.Stop.{Stop}
use Rattle.history_waves.proofs.Pending.{AreBut}
use Rattle.history_waves.proofs.telling.tell_all.Given as goal

-- what the taker took is told
abbrev pub invariant-loop-time : goal.invariant-loop-time
invariant-loop-time g l = (l.told ≤ length l.given) × ((all : List Stop) × g.T.Taker.took l.fn.taker l.taker all × AreBut l.own l.given l.told l.words l.fn.words all)

abbrev pub decreases-loop-time : goal.decreases-loop-time
decreases-loop-time g l = length l.words
