use Rattle.std.proofs.Common.{◌≡◌, ◌∙◌, ◌++◌, ◌∷◌, [], List, ℕ, ap}
use Rattle.warp_gates.specs.declared.wiring.Shape.{Shape}
use Rattle.warp_gates.specs.Cells.{Cell}
use Rattle.warp_gates.specs.Shown.Wiring.{cell_of, cells_of}
use Rattle.warp_gates.proofs.Wirings.{cells_of-push}
use Rattle.warp_gates.proofs.wiring.Wiring.push.Goals as goal

pub returns-clause-ok : goal.returns-clause-ok
returns-clause-ok c =
    let shapes : c.push_reserved.new.self.items ≡ c.self.inside.shapes.items ++ c.args.shape ∷ [] = c.push_reserved.ensures.items ∙ ap (λ (ss : List Shape). ss ++ c.args.shape ∷ []) c.reserve.ensures.items in
    ap (λ (ss : List Shape). cells_of ss c.push.new.self) shapes
    ∙ ap (λ (is : List (List ℕ)). cells_of (c.self.inside.shapes.items ++ c.args.shape ∷ []) is) c.in_ok-push.ensures.ok
    ∙ cells_of-push c.self.inside.shapes.items c.self.inside.inputs c.args.shape c.args.inputs.now c.self.invariant
    ∙ ap (λ (cells : List Cell). cells ++ cell_of c.args.shape c.args.inputs.now ∷ []) c.self.view_is
