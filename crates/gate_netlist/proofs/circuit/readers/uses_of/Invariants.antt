use Rattle.std.proofs.Common.{◌≡◌, length}
use Rattle.gate_netlist.specs.Inner.Readers.{AreOpen, AreListed}
use Rattle.gate_netlist.proofs.circuit.readers.uses_of.Given as goal

abbrev pub invariant-loop-reader : goal.invariant-loop-reader
invariant-loop-reader l = AreListed l.drivers l.reader l.uses.items × AreOpen l.reader l.uses.items l.next.items × (length l.next.items ≡ length l.drivers)
