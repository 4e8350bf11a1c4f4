use Rattle.std.proofs.Common.{◌≡◌, ◌∙◌, List, length, ap, sym, arith}
use Rattle.warp_gates.specs.Cells.{Cell}
use Rattle.warp_gates.proofs.Wirings.{length-cells_of}
use Rattle.warp_gates.proofs.wiring.Wiring.len.Goals as goal

pub returns : goal.returns
returns c =
    let len : c.len.result ≡ length c.self.inside.shapes.items = omega (arith, c.len.ensures) in
    len ∙ sym (length-cells_of c.self.inside.shapes.items c.self.inside.inputs c.self.invariant) ∙ ap (λ (cells : List Cell). length cells) c.self.view_is
