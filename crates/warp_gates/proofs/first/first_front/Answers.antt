use Rattle.std.proofs.Common.{◌∙◌, sym}
use Rattle.warp_gates.specs.Cells.{cell_at}
use Rattle.warp_gates.proofs.Starting.{first_of_gate}
use Rattle.warp_gates.proofs.first.first_front.Goals as goal

pub returns-in-Some : goal.returns-in-Some
returns-in-Some c =
    first_of_gate (cell_at c.args.wiring.now c.args.place) c.in-Some.kind c.args.queue c.args.content c.inputs.result.now c.first_pins.result (sym c.in-Some.is ∙ c.kind.ensures) c.inputs.ensures c.first_pins.ensures
