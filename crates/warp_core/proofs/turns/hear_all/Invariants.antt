use Rattle.warp_core.specs.Inner.Turns.{IsHearing}
use Rattle.warp_core.proofs.turns.hear_all.Given as goal

abbrev pub invariant-loop-place : goal.invariant-loop-place
invariant-loop-place l = IsHearing l.course l.fn.blocks.items l.fn.flight.items l.fn.heard.items l.number l.places l.place-index l.blocks.items l.flight.items l.heard.items
