use Rattle.std.proofs.Common.{◌≡◌, ◌∙◌, true, ℕ, Option, List, [], ◌∷◌, length, get_or, refl, ap, sym, subst, arith}
use Rattle.std.specs.Option.{unwrap_or}
use Rattle.std.specs.List.{slice_get}
use Rattle.warp_gates.specs.Cells.{Cell, cell_at}
use Rattle.warp_gates.specs.Inner.Told.{is_flop, data_of}
use Rattle.warp_gates.specs.Shown.Wiring.{cells_of}
use Rattle.warp_gates.proofs.Wirings.{length-cells_of, data_of-cells_of}
use Rattle.warp_gates.proofs.wiring.Wiring.data.Goals as goal

pub get-requires : goal.get-requires
get-requires c =
    let many : length c.args.self.now ≡ length c.self.inside.shapes.items = ap (λ (cells : List Cell). length cells) (sym c.self.view_is) ∙ length-cells_of c.self.inside.shapes.items c.self.inside.inputs c.self.invariant in
    omega (arith, c.self.invariant, c.requires.place)

first_or_zero : (row : List ℕ) → unwrap_or (slice_get row 0) 0 ≡ get_or row 0 0
first_or_zero [] = refl
first_or_zero (x ∷ xs) = refl

pub returns : goal.returns
returns c =
    let many : length c.args.self.now ≡ length c.self.inside.shapes.items = ap (λ (cells : List Cell). length cells) (sym c.self.view_is) ∙ length-cells_of c.self.inside.shapes.items c.self.inside.inputs c.self.invariant in
    let flop : is_flop (cell_at (cells_of c.self.inside.shapes.items c.self.inside.inputs) c.args.place) ≡ true = subst (λ (cells : List Cell). is_flop (cell_at cells c.args.place) ≡ true) (sym c.self.view_is) c.requires.flop in
    c.unwrap_or.ensures
    ∙ ap (λ (o : Option ℕ). unwrap_or o 0) (c.copied.ensures ∙ c.first.ensures.value)
    ∙ first_or_zero c.get.result.now
    ∙ ap (λ (row : List ℕ). get_or row 0 0) c.get.ensures
    ∙ data_of-cells_of c.self.inside.shapes.items c.self.inside.inputs c.args.place c.self.invariant (omega (arith, c.requires.place)) flop
    ∙ ap (λ (cells : List Cell). data_of (cell_at cells c.args.place)) c.self.view_is
