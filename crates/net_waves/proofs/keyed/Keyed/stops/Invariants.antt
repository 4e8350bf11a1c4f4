use Rattle.std.proofs.Common.{◌≡◌, take}
use Rattle.net_waves.specs.Keys.{stops_of_keys}
use Rattle.net_waves.proofs.keyed.Keyed.stops.Given as goal

-- the stops of the keys so far
abbrev pub invariant-loop-key : goal.invariant-loop-key
invariant-loop-key l = l.stops.items ≡ stops_of_keys (take l.key-index l.self)
