use Rattle.std.proofs.Common.{◌≤◌, length}
use Rattle.net_waves.specs.ByTime.{stops_in}
use Rattle.history_waves.specs.Inner.Pending.{AreLeft}
use Rattle.history_waves.proofs.several.tell_each.Given as goal

-- so many of the given changes are told, and what the untold tell no more
abbrev pub invariant-loop : goal.invariant-loop
invariant-loop l = (l.told ≤ length l.given) × AreLeft l.given 0 l.told l.fn.untold l.untold (stops_in l.fn.by_time) (stops_in l.by_time)
