use Rattle.std.proofs.Common.{drop}
use Rattle.vcd_only.specs.Inner.Stops.{stops_in, IsWritten}
use Rattle.vcd_only.proofs.text.push_stops.Given as goal

-- the changes so far
abbrev pub invariant-loop-stop : goal.invariant-loop-stop
invariant-loop-stop l = IsWritten l.initial.text.items l.text.items l.last (stops_in (drop l.stop-index l.stops)) (stops_in l.stops)
