use Rattle.std.proofs.Common.{◌∙◌, ap, arith, string_bytes}
use Rattle.std.proofs.lemmas.List.{length-map}
use Rattle.toml.specs.View.{table_view}
use Rattle.gate_netlist.specs.HeldParts.{parts_netlist}
use Rattle.gate_netlist.specs.Meaning.{with_clock}
use Rattle.gate_netlist.proofs.Clocks.{has_clocks_by, delays_with_clock}
use Rattle.gate_netlist.proofs.Circuits.{clocked_circuit-circuit_of}
use Rattle.gate_netlist.proofs.circuit.build.build.Goals as goal

pub circuit_of_parts-requires-clause-clocks : goal.circuit_of_parts-requires-clause-clocks
circuit_of_parts-requires-clause-clocks c =
    has_clocks_by (table_view c.args.table.now) _ (parts_netlist c.parts_of-parts.result) c.args.bench c.in_ok-clocked.ensures c.parts_of-parts.ensures.same c.parts_of-parts.ensures.law c.requires.cause

pub circuit_of_parts-requires-clause-delays : goal.circuit_of_parts-requires-clause-delays
circuit_of_parts-requires-clause-delays c =
    let ms = table_view c.args.table.now in
    let clocked = c.in_ok-clocked.clocked in
    let nets = length-map clocked.names.keys string_bytes in
    let law = c.parts_of-parts.ensures.law in
    delays_with_clock ms c.args.bench (parts_netlist clocked) c.args.delays.items c.in_ok-delays.delays.items law.definitions
    (c.in_ok-clocked.ensures ∙ ap (with_clock ms) c.parts_of-parts.ensures.same) c.requires.delays
    (λ le. c.in_ok-delays.ensures.same (omega (arith, le, nets, c.len.ensures))) (λ lt. c.in_ok-delays.ensures.added (omega (arith, lt, nets, c.len.ensures)))

pub returns : goal.returns
returns c = rw (← clocked_circuit-circuit_of (table_view c.args.table.now) _ _ _ c.in_ok-clocked.ensures c.parts_of-parts.ensures.same) c.circuit_of_parts.ensures
