use Rattle.std.proofs.Common.{◌<◌, ◌||◌, false, ℕ, List, get_or, sym, ap, ◌∙◌}
use Rattle.std.specs.List.{All}
use Rattle.std.proofs.lemmas.List.{take_all}
use Rattle.std.proofs.lemmas.List.Folds.{list_any_more}
use Rattle.gate_netlist.specs.Circuit.{nets_of, driver_of}
use Rattle.gate_netlist.specs.declared.driver.Driver.{Driver}
use Rattle.warp_part.specs.Portion.{of_net}
use Rattle.warp_part.specs.Inner.Building.{driver_uses, has, is_used_among}
use Rattle.warp_part.specs.Inner.Uses.{noted}
use Rattle.warp_part.proofs.PartBuilding.{own_within, used_is}
use Rattle.warp_part.proofs.PartNoted.{noted_none, AreNotes-none, AreNotes-same}
use Rattle.warp_part.proofs.part.uses.uses_of.Goals as goal

pub driver-requires : goal.driver-requires
driver-requires c =
    let within : All (λ n. n < nets_of c.args.circuit.now) c.args.own.now = rw c.requires.own (own_within c.args.circuit.now c.args.cut.now c.args.block c.requires.fits) in
    within c.loop-net.net-index 0 c.loop-net-test.true

pub loop-net-init : goal.loop-net-init
loop-net-init c = record {
  lawful = AreNotes-none c.args.cut.now c.args.block c.args.own.now c.args.marks.now.items c.new-others.result.items c.requires.marks c.new-others.ensures.items;
  noted = noted_none c.args.own.now c.args.marks.now.items c.new-others.result.items c.requires.marks c.new-others.ensures.items;
}

pub loop-net-preserved : goal.loop-net-preserved
loop-net-preserved c =
    let d = c.args.circuit.now in
    let own = c.args.own.now in
    let i = c.loop-net.net-index in
    record {
      lawful = c.in_ok-note_driver.ensures.lawful;
      noted = λ n.
          c.in_ok-note_driver.ensures.noted n
          ∙ ap (λ (driver : Driver). noted own c.loop-net.marks.items c.loop-net.others.items n || has (driver_uses driver) n) c.driver.ensures
          ∙ ap (λ t. t || has (driver_uses (driver_of d (get_or own i 0))) n) (c.loop-net.invariant.noted n)
          ∙ sym (list_any_more (λ g. has (driver_uses (driver_of d g)) n) own i 0 c.loop-net-test.true);
    }

pub returns-clause-lawful : goal.returns-clause-lawful
returns-clause-lawful c =
    AreNotes-same c.args.cut.now c.args.block c.args.own.now c.loop-net.marks.items c.loop-net.others.items c.settle.new.numbers.items c.settle.ensures.same c.loop-net.invariant.lawful

pub returns-clause-noted : goal.returns-clause-noted
returns-clause-noted c = λ n.
    ap (λ t. of_net c.args.own.now c.loop-net.marks.items false n || t) (c.settle.ensures.same n)
    ∙ c.loop-net.invariant.noted n
    ∙ ap (λ (gates : List ℕ). is_used_among c.args.circuit.now gates n) (take_all c.loop-net.net-index c.args.own.now c.loop-net-test.false ∙ c.requires.own)
    ∙ used_is c.args.circuit.now c.args.cut.now c.args.block c.requires.fits n
