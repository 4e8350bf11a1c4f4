-- What contracts see of a bench.
use Rattle.gate_netlist.specs.declared.bench.Bench.TheInside.{Inside}
use Rattle.gate_netlist.specs.Netlist.{Netlist}
use Rattle.gate_netlist.specs.HeldParts.{parts_netlist}

abbrev pub bench_netlist : Inside → Netlist
bench_netlist b = parts_netlist (record { names = b.names; definitions = b.definitions; outputs = b.outputs })
