use Rattle.std.proofs.Common.{◌≡◌}
use Rattle.net_waves.specs.Packed.{told_below}
use Rattle.net_waves.proofs.packed.Packed.stops.Given as goal

-- what is told of the times so far
abbrev pub invariant-loop-time : goal.invariant-loop-time
invariant-loop-time l = l.stops.items ≡ told_below l.self l.time
