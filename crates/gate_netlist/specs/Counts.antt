-- How many there are of each kind of thing in a circuit.
use Rattle.std.specs.Prelude.{length, count_by}
use Rattle.std.specs.Option.{option_map_or}
use Rattle.gate_netlist.specs.declared.counts.Counts.{Counts}
use Rattle.gate_netlist.specs.Cut.{Ownership}
use Rattle.gate_netlist.specs.Circuit.{Design, nets_of, is_input, is_gate, is_flop}

-- blocks are those of the settings' cut, or one where there is none
abbrev pub counts_of : Design → Counts
counts_of d = record {
  nets = nets_of d;
  inputs = count_by is_input d.drivers;
  gates = count_by is_gate d.drivers;
  flops = count_by is_flop d.drivers;
  outputs = length d.outputs;
  blocks = option_map_or (λ (cut : Ownership). cut.blocks) d.cut 1;
}
