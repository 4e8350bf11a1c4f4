-- What contracts see of the parts of a bench.
use Rattle.std.specs.Prelude.{map, string_bytes}
use Rattle.gate_netlist.specs.declared.settings.parts.Parts.{Parts}
use Rattle.gate_netlist.specs.Netlist.{Netlist}

-- the netlist that the parts hold
abbrev pub parts_netlist : Parts → Netlist
parts_netlist p = record { names = map string_bytes p.names.keys; definitions = p.definitions.items; outputs = p.outputs.items }
