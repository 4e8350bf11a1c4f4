use Rattle.std.proofs.Common.{◌≡◌, ◌∙◌, sym, refl, true}
use Rattle.gate_netlist.specs.Circuit.{driver_of, is_input}
use Rattle.gate_vcd.proofs.inputs.source_of_net.Goals as goal

pub returns-in-Ok : goal.returns-in-Ok
returns-in-Ok c =
    let input : is_input (driver_of c.args.circuit.now c.args.net) ≡ true = sym c.is_input.ensures ∙ c.if-not-is_input.false in
    rw (input, ← c.name.ensures, ← c.as_bytes.ensures.value, c.in-Ok.ensures) refl
