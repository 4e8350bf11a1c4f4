-- What contracts see of a circuit.
use Rattle.std.specs.Prelude.{◌≡◌, map, option_map, string_bytes}
use Rattle.gate_netlist.specs.declared.circuit.Circuit.TheInside.{Inside}
use Rattle.std.specs.List.{range_with_len}
use Rattle.gate_netlist.specs.Circuit.{Design, nets_of, readers_of, IsCircuit}

abbrev pub design_of : Inside → Design
design_of c = record {
  names = map string_bytes c.names.keys;
  drivers = c.drivers.items;
  delays = c.delays.items;
  outputs = c.outputs.items;
  clock = c.clock;
  scope = option_map string_bytes c.scope;
  cut = c.cut;
}

-- what is true of a circuit's fields: the law of circuits, and the readers of each net
pub record IsHeld (c : Inside) : Type 0 where
  pub law : IsCircuit (design_of c)
  pub readers : c.readers ≡ map (readers_of (design_of c)) (range_with_len 0 (nets_of (design_of c)))
