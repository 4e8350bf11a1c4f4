use Rattle.gate_netlist.proofs.Readers.{listed_all}
use Rattle.gate_netlist.proofs.circuit.readers.readers_of.Goals as goal

pub returns : goal.returns
returns c = rw (← listed_all c.args.drivers.now c.in_ok-uses.uses.items c.in_ok-uses.ensures, ← c.deref.ensures.value) c.of.ensures
