use Rattle.std.proofs.Common.{◌<◌, length, inl, inr, sym, ap, arith}
use Rattle.warp_gates.specs.Inner.First.{kind_of}
use Rattle.warp_gates.proofs.Wirings.{cell_is, place_in}
use Rattle.warp_gates.proofs.wiring.Wiring.kind.Goals as goal

pub index-requires : goal.index-requires
index-requires c =
    let within : c.args.place < length c.self.inside.shapes.items = place_in c.args.self.now c.self.inside.shapes.items c.self.inside.inputs c.args.place c.self.view_is c.self.invariant c.requires in
    omega (arith, within)

pub returns-in-Gate : goal.returns-in-Gate
returns-in-Gate c = sym (ap kind_of (cell_is c.args.self.now c.self.inside.shapes.items c.self.inside.inputs c.args.place _ _ c.self.view_is c.self.invariant c.requires c.index.ensures c.in-Gate.is))

pub returns-in-Outside : goal.returns-in-Outside
returns-in-Outside c = elim c.in-Outside.is [
  | inl outside ↦ sym (ap kind_of (cell_is c.args.self.now c.self.inside.shapes.items c.self.inside.inputs c.args.place _ _ c.self.view_is c.self.invariant c.requires c.index.ensures outside))
  | inr flop ↦ sym (ap kind_of (cell_is c.args.self.now c.self.inside.shapes.items c.self.inside.inputs c.args.place _ _ c.self.view_is c.self.invariant c.requires c.index.ensures flop))
]
