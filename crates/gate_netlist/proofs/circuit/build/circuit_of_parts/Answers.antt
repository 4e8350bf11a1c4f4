use Rattle.std.proofs.Common.{◌∙◌, sym, subst, arith}
use Rattle.toml.specs.View.{table_view}
use Rattle.gate_netlist.specs.Circuit.{IsCircuit}
use Rattle.gate_netlist.specs.HeldParts.{parts_netlist}
use Rattle.gate_netlist.specs.Meaning.{clocked_circuit}
use Rattle.gate_netlist.proofs.Circuits.{is_circuit, used_below, readers_all}
use Rattle.gate_netlist.proofs.circuit.build.circuit_of_parts.Goals as goal

pub readers_of-requires-clause-within : goal.readers_of-requires-clause-within
readers_of-requires-clause-within c =
    let law = is_circuit (table_view c.args.table.now) (parts_netlist c.args.parts) c.requires.clocks in
    rw (c.as_slice-4.ensures.value, c.in_ok-drivers.ensures) (omega (arith, law.drivers, law.within))

pub readers_of-requires-clause-used : goal.readers_of-requires-clause-used
readers_of-requires-clause-used c =
    rw (c.as_slice-4.ensures.value, c.in_ok-drivers.ensures)
    (used_below (clocked_circuit (table_view c.args.table.now) (parts_netlist c.args.parts)) (is_circuit (table_view c.args.table.now) (parts_netlist c.args.parts) c.requires.clocks))

pub returns : goal.returns
returns c = rw (c.in_ok-drivers.ensures, c.requires.delays, c.in_ok-scope.ensures, c.in_ok-cut.ensures, c.clock_of-clock.ensures, c.as_slice.ensures.keys, c.as_slice-2.ensures.value, c.as_slice-3.ensures.value)

pub invariant_of-result : goal.invariant_of-result
invariant_of-result c =
    let law = subst IsCircuit (sym (returns c)) (is_circuit (table_view c.args.table.now) (parts_netlist c.args.parts) c.requires.clocks) in
    record {
      law = law;
      readers = (rw c.as_slice-4.ensures.value at c.in_ok-readers.ensures) ∙ readers_all law;
    }
