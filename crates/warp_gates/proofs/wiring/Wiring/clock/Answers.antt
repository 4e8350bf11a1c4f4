use Rattle.std.proofs.Common.{◌∙◌, ◌<◌, ℕ, List, length, get_or, Some, inl, inr, sym, ap, arith}
use Rattle.warp_gates.specs.Inner.First.{clock_of}
use Rattle.warp_gates.proofs.Wirings.{cell_is, place_in}
use Rattle.warp_gates.proofs.wiring.Wiring.clock.Goals as goal

pub index-requires : goal.index-requires
index-requires c =
    let within : c.args.place < length c.self.inside.shapes.items = place_in c.args.self.now c.self.inside.shapes.items c.self.inside.inputs c.args.place c.self.view_is c.self.invariant c.requires in
    omega (arith, within)

pub get-requires : goal.get-requires
get-requires c =
    let within : c.args.place < length c.self.inside.shapes.items = place_in c.args.self.now c.self.inside.shapes.items c.self.inside.inputs c.args.place c.self.view_is c.self.invariant c.requires in
    omega (arith, within, c.self.invariant)

pub returns-in-Flop : goal.returns-in-Flop
returns-in-Flop c = ap Some (c.second.ensures ∙ ap (λ (row : List ℕ). get_or row 1 0) c.get.ensures) ∙ sym (ap clock_of (cell_is c.args.self.now c.self.inside.shapes.items c.self.inside.inputs c.args.place _ _ c.self.view_is c.self.invariant c.requires c.index.ensures c.in-Flop.is))

pub returns-in-Outside : goal.returns-in-Outside
returns-in-Outside c = elim c.in-Outside.is [
  | inl outside ↦ sym (ap clock_of (cell_is c.args.self.now c.self.inside.shapes.items c.self.inside.inputs c.args.place _ _ c.self.view_is c.self.invariant c.requires c.index.ensures outside))
  | inr gate ↦ sym (ap clock_of (cell_is c.args.self.now c.self.inside.shapes.items c.self.inside.inputs c.args.place _ _ c.self.view_is c.self.invariant c.requires c.index.ensures gate.1))
]
