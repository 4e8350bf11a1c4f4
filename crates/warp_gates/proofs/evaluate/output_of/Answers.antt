use Rattle.std.proofs.Common.{◌≡◌, ◌∙◌, ◌<◌, ◌%◌, ◌/◌, true, length, sym, arith}
use Rattle.std.proofs.lemmas.Bool.{lt-ltb}
use Rattle.warp_gates.specs.Cells.{cell_at}
use Rattle.warp_gates.specs.Inner.Fronts.{inputs_of, is_narrow}
use Rattle.warp_gates.proofs.Padding.{narrow_output}
use Rattle.warp_gates.proofs.evaluate.output_of.Goals as goal

pub returns-then-edge-from : goal.returns-then-edge-from
returns-then-edge-from c =
    let small : c.args.edge % 8 < 4 = omega arith in
    let narrow : is_narrow (inputs_of (cell_at c.args.wiring.now (c.args.edge / 8))) ≡ true = sym c.requires.edge.few ∙ lt-ltb (c.args.edge % 8) 4 small in
    c.of.ensures ∙ narrow_output c.args.values.now (cell_at c.args.wiring.now (c.args.edge / 8)) c.args.front (length c.args.values.now) c.requires.cell c.requires.edge.gate narrow c.requires.showing
