use Rattle.std.proofs.Common.{◌≡◌, sym, ◌∙◌, arith}
use Rattle.gate_netlist.specs.Circuit.{driver_of}
use Rattle.gate_netlist.specs.declared.driver.Driver.TheVariants.{Flop}
use Rattle.warp_part.proofs.PartBuilding.{flop_is, flop_cell}
use Rattle.warp_part.proofs.part.build.own_cell.Goals as goal

pub place_in-requires-clause-there : goal.place_in-requires-clause-there
place_in-requires-clause-there c =
    let is : driver_of c.args.circuit.now c.args.net ≡ Flop c.in-Flop.d c.in-Flop.clock c.in-Flop.init = sym c.driver.ensures ∙ c.in-Flop.is in
    let there = rw is at c.requires.there in
    there 0 0 (omega arith)

pub place_in-requires-in-Flop-clause-there : goal.place_in-requires-in-Flop-clause-there
place_in-requires-in-Flop-clause-there c =
    let is : driver_of c.args.circuit.now c.args.net ≡ Flop c.in-Flop.d c.in-Flop.clock c.in-Flop.init = sym c.driver.ensures ∙ c.in-Flop.is in
    let there = rw is at c.requires.there in
    there 1 0 (omega arith)

pub returns-in-Flop-clause-cell : goal.returns-in-Flop-clause-cell
returns-in-Flop-clause-cell c =
    let d = c.args.circuit.now in
    let is : driver_of d c.args.net ≡ Flop c.in-Flop.d c.in-Flop.clock c.in-Flop.init = sym c.driver.ensures ∙ c.in-Flop.is in
    let (source, input, delay) = flop_is d c.args.net c.in-Flop.d c.in-Flop.clock c.in-Some.delay c.in-Flop.init c.law.ensures c.requires.net is c.in-Some.ensures in
    let there = rw is at c.requires.there in
    rw (source, input, c.place_in.ensures, c.place_in-in-Flop.ensures)
    (flop_cell c.args.nets.now c.args.pins.now.items c.in-Some.delay c.in-Flop.d c.in-Flop.clock c.in-Flop.init (there 0 0 (omega arith)) (there 1 0 (omega arith)) delay)
