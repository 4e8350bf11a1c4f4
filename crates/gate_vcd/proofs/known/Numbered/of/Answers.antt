use Rattle.gate_vcd.proofs.known.Numbered.of.Goals as goal

pub in_order-requires-clause-falls : goal.in_order-requires-clause-falls
in_order-requires-clause-falls c = rw c.as_slice.ensures.value c.in_ok-order.ensures.falls
