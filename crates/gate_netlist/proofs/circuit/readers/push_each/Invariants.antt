use Rattle.std.proofs.Common.{◌≡◌, length, take}
use Rattle.number_groups.specs.Groups.{group}
use Rattle.gate_netlist.specs.Inner.Readers.{AreTold}
use Rattle.gate_netlist.proofs.circuit.readers.push_each.Given as goal

abbrev pub invariant-loop-net : goal.invariant-loop-net
invariant-loop-net l = AreTold (group l.initial.uses.items) l.reader (take l.net-index l.nets) l.uses.items l.next × (length l.next ≡ length l.initial.next)
