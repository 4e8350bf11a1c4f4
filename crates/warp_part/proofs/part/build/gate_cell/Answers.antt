use Rattle.std.proofs.Common.{List, ℕ, map, false, ap, subst, arith}
use Rattle.gate_values.specs.Behaviour.{Gate}
use Rattle.warp_part.specs.declared.cell.Cell.TheVariants as cell
use Rattle.warp_part.specs.Inner.Building.{IsCell}
use Rattle.warp_part.specs.Shown.Building.{place_of}
use Rattle.warp_part.proofs.PartHeld.{two_are}
use Rattle.warp_part.proofs.PartBuilding.{pair_cell, gate_cell, places_within}
use Rattle.warp_part.proofs.part.build.gate_cell.Goals as goal

pub returns-in-len2-clause-cell : goal.returns-in-len2-clause-cell
returns-in-len2-clause-cell c =
    let two = ap (map (place_of c.args.nets.now)) (two_are c.args.inputs.now c.in-len2.len_at_least c.in-len2.len_below) in
    rw (c.place_in.ensures, c.place_in-in-len2.ensures)
    (subst (λ (pins : List ℕ). IsCell c.args.nets.now c.args.pins.now.items (Gate c.args.kind c.args.delay c.args.inputs.now) false (cell.Pair c.args.kind c.args.delay pins)) two
    (pair_cell c.args.nets.now c.args.pins.now.items c.args.inputs.now c.args.kind c.args.delay (omega arith) c.requires.there c.requires.inputs c.requires.delay))

pub returns-in_ok-span-in_default-clause-cell : goal.returns-in_ok-span-in_default-clause-cell
returns-in_ok-span-in_default-clause-cell c =
    let span = c.in_ok-span-in_default.ensures.span in
    rw c.in_ok-span-in_default.ensures.pins
    (gate_cell c.args.nets.now c.args.pins.now.items c.args.inputs.now c.args.kind c.args.delay c.in_ok-span-in_default.span c.requires.there c.requires.inputs c.requires.delay span.0 span.1)

pub returns-in_ok-span-in_default-clause-pins : goal.returns-in_ok-span-in_default-clause-pins
returns-in_ok-span-in_default-clause-pins c =
    record {
      more = map (place_of c.args.nets.now) c.args.inputs.now;
      added = c.in_ok-span-in_default.ensures.pins;
      places = places_within c.args.nets.now c.args.inputs.now c.requires.there;
    }
