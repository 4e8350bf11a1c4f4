use Rattle.std.proofs.Common.{◌≡◌, ◌++◌, take}
use Rattle.net_waves.specs.Inner.Stops.{stops_of}
use Rattle.vcd_only.specs.Inner.Stops.{stops_in}
use Rattle.vcd_only.proofs.stops.add_changes.Given as goal

-- the changes so far
abbrev pub invariant-loop-change : goal.invariant-loop-change
invariant-loop-change l = stops_in l.stops.items ≡ stops_in l.initial.stops.items ++ stops_of l.net (take l.change-index l.changes)
