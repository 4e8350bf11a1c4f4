use Rattle.warp_gates.specs.Inner.First.{AreListed}
use Rattle.warp_gates.proofs.readers.readers_of.Given as goal

abbrev pub invariant-loop-gate : goal.invariant-loop-gate
invariant-loop-gate l = AreListed l.wiring l.gate 0 l.edges.items
