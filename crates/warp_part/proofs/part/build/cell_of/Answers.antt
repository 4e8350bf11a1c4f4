use Rattle.std.proofs.Common.{sym, arith}
use Rattle.warp_part.proofs.PartBuilding.{nets_rise, nets_few, own_uses}
use Rattle.warp_part.proofs.part.build.cell_of.Goals as goal

pub own_cell-requires-clause-up : goal.own_cell-requires-clause-up
own_cell-requires-clause-up c = rw c.requires.nets (nets_rise c.args.circuit.now c.args.cut.now c.args.block)

pub own_cell-requires-clause-few : goal.own_cell-requires-clause-few
own_cell-requires-clause-few c = rw c.requires.nets (omega (arith, nets_few c.args.circuit.now c.args.cut.now c.args.block))

pub own_cell-requires-clause-there : goal.own_cell-requires-clause-there
own_cell-requires-clause-there c = rw c.requires.nets (own_uses c.args.circuit.now c.args.cut.now c.args.block c.args.net c.law.ensures c.requires.net (sym c.if-is_own.ensures))
