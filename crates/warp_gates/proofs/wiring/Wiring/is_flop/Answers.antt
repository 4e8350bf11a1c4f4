use Rattle.std.proofs.Common.{◌∙◌, ◌<◌, length, refl, sym, ap, arith}
use Rattle.warp_gates.specs.Inner.Told.{is_flop}
use Rattle.warp_gates.proofs.Wirings.{cell_is, place_in, not_flop}
use Rattle.warp_gates.proofs.wiring.Wiring.is_flop.Goals as goal

pub index-requires : goal.index-requires
index-requires c =
    let within : c.args.place < length c.self.inside.shapes.items = place_in c.args.self.now c.self.inside.shapes.items c.self.inside.inputs c.args.place c.self.view_is c.self.invariant c.requires in
    omega (arith, within)

pub returns-in-Flop : goal.returns-in-Flop
returns-in-Flop c = sym (ap is_flop (cell_is c.args.self.now c.self.inside.shapes.items c.self.inside.inputs c.args.place _ _ c.self.view_is c.self.invariant c.requires c.index.ensures c.in-Flop.is))

pub returns-in_default : goal.returns-in_default
returns-in_default c = sym (ap is_flop (cell_is c.args.self.now c.self.inside.shapes.items c.self.inside.inputs c.args.place _ _ c.self.view_is c.self.invariant c.requires c.index.ensures refl) ∙ not_flop _ _ c.in_default.not-Flop)
