use Rattle.warp_gates.specs.Inner.First.{AreTimed}
use Rattle.warp_gates.proofs.readers.clocked_of.Given as goal

abbrev pub invariant-loop-place : goal.invariant-loop-place
invariant-loop-place l = AreTimed l.wiring l.place l.flops.items
