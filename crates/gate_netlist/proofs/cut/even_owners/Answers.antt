use Rattle.std.proofs.Common.{◌<◌, ◌∙◌, length, sym, arith}
use Rattle.gate_netlist.proofs.EvenCuts.{evenly_input, evenly_driven}
use Rattle.gate_netlist.proofs.cut.even_owners.Goals as goal
use Rattle.gate_netlist.proofs.cut.even_owners.Goals.{then-is_input+in_ok-push, else-is_input+in_ok-push-2}

pub loop-net-preserved : goal.loop-net-preserved
loop-net-preserved c =
    let within : c.loop-net.net < length c.args.circuit.now.drivers = omega (arith, c.law.ensures.drivers) in
    elim c.if-is_input.branch [
      | then-is_input+in_ok-push w ↦ rw (w.number-is, w.owners-is, w.in_ok-push.ensures.items)
          (evenly_input _ _ _ _ _ within (sym c.is_input.ensures ∙ w.if-is_input.true) c.loop-net.invariant)
      | else-is_input+in_ok-push-2 w ↦ rw (w.number-is, w.owners-is, w.in_ok-push-2.ensures.items)
          (evenly_driven _ _ _ _ _ _ within (sym c.is_input.ensures ∙ w.if-is_input.false) c.driven_count-driven.ensures.count c.loop-net.invariant)
    ]
