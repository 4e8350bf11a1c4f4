use Rattle.gate_netlist.proofs.EvenCuts.{IsEvenUpTo}
use Rattle.gate_netlist.proofs.cut.even_owners.Given as goal

abbrev pub invariant-loop-net : goal.invariant-loop-net
invariant-loop-net l = IsEvenUpTo l.circuit l.blocks l.net l.number l.owners.items
