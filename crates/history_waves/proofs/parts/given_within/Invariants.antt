use Rattle.std.proofs.Common.{◌≡◌, take}
use Rattle.history_waves.specs.Inner.Parts.{stops_within}
use Rattle.history_waves.proofs.parts.given_within.Given as goal

-- those so far that are of the part
abbrev pub invariant-loop-stop : goal.invariant-loop-stop
invariant-loop-stop l = l.some.items ≡ stops_within l.from l.until (take l.stop-index l.given)
