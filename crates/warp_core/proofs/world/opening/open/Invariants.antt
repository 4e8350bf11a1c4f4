use Rattle.warp_core.specs.Inner.Opened.{AreOpened}
use Rattle.warp_core.proofs.world.opening.open.Given as goal

abbrev pub invariant-loop-number : goal.invariant-loop-number
invariant-loop-number l = AreOpened l.circuit l.cut l.stimulus l.horizon l.number l.blocks.items l.flight.items
