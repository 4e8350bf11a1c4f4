use Rattle.std.proofs.Common.{◌≡◌, ◌<◌, [], ◌∷◌, ◌++◌, arith}
use Rattle.std.specs.List.{All}
use Rattle.std.proofs.lemmas.List.{length-append}
use Rattle.gate_netlist.specs.Circuit.{nets_of}
use Rattle.warp_part.proofs.PartBuilding.{nets_within, AreCells-push}
use Rattle.warp_part.proofs.part.build.cells_of.Goals as goal

pub cell_of-requires-clause-net : goal.cell_of-requires-clause-net
cell_of-requires-clause-net c =
    let within : All (λ n. n < nets_of c.args.circuit.now) c.args.nets.now = rw c.requires.nets (nets_within c.args.circuit.now c.args.cut.now c.args.block) in
    within c.loop-net.net-index 0 c.loop-net-test.true

pub loop-net-preserved : goal.loop-net-preserved
loop-net-preserved c =
    let cells : c.push.new.self.items ≡ c.loop-net.cells.items ++ c.in_ok-cell_of.field-0 ∷ [] = c.in_ok-push.ensures.items in
    record {
      many = rw cells (omega (arith, c.loop-net.invariant.many, length-append c.loop-net.cells.items (c.in_ok-cell_of.field-0 ∷ [])));
      each = rw cells (AreCells-push c.args.circuit.now c.args.cut.now c.args.block c.args.nets.now c.loop-net.pins.items c.cell_of.new.pins.items c.loop-net.cells.items c.loop-net.net-index c.in_ok-cell_of.field-0
          c.loop-net.invariant.many c.loop-net.invariant.each c.in_ok-cell_of.ensures.pins c.in_ok-cell_of.ensures.cell);
    }
