use Rattle.std.proofs.Common.{take}
use Rattle.warp_gates.specs.Inner.Fronts.{AreShown}
use Rattle.warp_gates.proofs.front.show.Given as goal

abbrev pub invariant-loop-edge : goal.invariant-loop-edge
invariant-loop-edge l = AreShown (take l.edge-index l.edges) l.value l.initial.fronts l.fronts
