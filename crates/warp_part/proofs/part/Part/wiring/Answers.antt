use Rattle.std.proofs.Common.{◌≡◌, ◌∙◌, ℕ, List, map, ap, sym, subst}
use Rattle.std.specs.Prelude.{IfOk}
use Rattle.warp_gates.specs.Cells as cells
use Rattle.warp_part.specs.Placing.{place_cells}
use Rattle.warp_part.specs.Inner.Wired.{wired}
use Rattle.warp_part.proofs.Wired.{cells_wired}
use Rattle.warp_part.proofs.part.Part.wiring.Goals as goal

pub returns : goal.returns
returns c =
    let all : map (wired c.as_slice-2.result.now) c.as_slice.result.now ≡ place_cells c.args.self.now =
    ap (λ (ps : List ℕ). map (wired ps) c.as_slice.result.now) c.as_slice-2.ensures.value
    ∙ ap (map (wired c.self.inside.pins.items)) c.as_slice.ensures.value
    ∙ sym (cells_wired c.self.inside.nets.items c.self.inside.pins.items c.self.invariant.portion.ascending c.self.inside.cells.items c.self.invariant.fit c.self.invariant.pins)
    ∙ ap place_cells c.self.view_is in
    subst (λ (cs : List cells.Cell). IfOk c.wiring_of.result (λ wiring. wiring ≡ cs)) all c.wiring_of.ensures
