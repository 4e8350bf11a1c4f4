use Rattle.std.proofs.Common.{◌≡◌}
use Rattle.net_waves.specs.Inner.Stops.{stops_below}
use Rattle.vcd_only.specs.Inner.Stops.{stops_in, shown}
use Rattle.vcd_only.proofs.stops.stops_by_net.Given as goal

-- the nets so far
abbrev pub invariant-loop-net : goal.invariant-loop-net
invariant-loop-net l = stops_in l.stops.items ≡ stops_below (shown l.told l.waves) l.net
