use Rattle.gate_netlist.specs.Inner.Owned.{AreOwned}
use Rattle.gate_netlist.proofs.cut.entries_of.Given as goal

abbrev pub invariant-loop-net : goal.invariant-loop-net
invariant-loop-net l = AreOwned l.owners l.net l.entries.items
