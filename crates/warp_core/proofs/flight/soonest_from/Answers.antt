use Rattle.std.proofs.Common.{◌≤◌, ◌+◌, arith, take, sym, subst}
use Rattle.std.proofs.lemmas.List.Elements.{All-get_or}
use Rattle.gate_values.specs.declared.logic.Logic.TheVariants.{Zero}
use Rattle.warp_process.specs.declared.message.Message.{Message}
use Rattle.warp_process.specs.declared.message.Sign.TheVariants.{Plus}
use Rattle.warp_core.specs.Inner.Kept.{IsSoonest}
use Rattle.warp_core.proofs.Soonest.{soonest_more, soonest_whole, countable}
use Rattle.warp_core.proofs.flight.soonest_from.Goals as goal

pub counted-found-requires : goal.counted-found-requires
counted-found-requires c =
    let few = countable c.args.flight.now c.loop-place.place c.args.end c.loop-place.found c.loop-place-test.true c.loop-place.invariant in
    omega (arith, few)

pub loop-place-preserved : goal.loop-place-preserved
loop-place-preserved c =
    let none : Message = record { time = 0; block = 0; net = 0; value = Zero; sign = Plus } in
    subst (IsSoonest (take (c.loop-place.place + 1) c.args.flight.now) c.args.end) (sym c.counted-found.ensures)
    (soonest_more c.args.flight.now c.loop-place.place c.args.end c.loop-place.found none c.loop-place-test.true
    (All-get_or (λ (m : Message). m.time ≤ c.args.end) c.args.flight.now c.loop-place.place none c.loop-place-test.true c.requires.times) c.loop-place.invariant)

pub returns : goal.returns
returns c = soonest_whole c.args.flight.now c.loop-place.place c.args.end c.loop-place.found c.loop-place-test.false c.loop-place.invariant
