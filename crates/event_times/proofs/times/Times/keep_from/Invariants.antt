use Rattle.std.proofs.Common.{◌≡◌, ◌-◌, length}
use Rattle.event_times.proofs.Cutting.{IsOnWay}
use Rattle.event_times.proofs.times.Times.keep_from.Given as goal

abbrev pub invariant-loop-gone : goal.invariant-loop-gone
invariant-loop-gone l =
    IsOnWay l.floor l.gone l.self-inside.first (record { first = l.initial.self-inside.first; times = l.initial.self-inside.times.items }) × (l.self-inside.times.items ≡ l.initial.self-inside.times.items)

abbrev pub decreases-loop-gone : goal.decreases-loop-gone
decreases-loop-gone l = length l.initial.self-inside.times.items - l.gone
