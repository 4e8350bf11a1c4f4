use Rattle.warp_core.specs.Inner.Turns.{place_in}
use Rattle.warp_core.specs.Inner.Turns.{IsKept}
use Rattle.warp_core.proofs.turns.left.keep_left.Given as goal

abbrev pub invariant-loop-place : goal.invariant-loop-place
invariant-loop-place l = IsKept (place_in l.heard) l.fn.flight.items l.flight.items l.kept l.place
