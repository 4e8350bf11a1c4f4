use Rattle.warp_gates.specs.Inner.First.{AreListed}
use Rattle.warp_gates.proofs.readers.push_edges.Given as goal

abbrev pub invariant-loop-k : goal.invariant-loop-k
invariant-loop-k l = AreListed l.wiring l.gate l.k l.edges.items
