use Rattle.std.proofs.Common.{ℕ, ◌∙◌, subst, arith}
use Rattle.warp_core.specs.World.{IsLeastTime}
use Rattle.warp_core.proofs.Driving.{higher_than}
use Rattle.warp_core.proofs.Turning.{no_rounds, rounds_more}
use Rattle.warp_core.proofs.driver.drive.Goals as goal

pub loop-least-init : goal.loop-least-init
loop-least-init c =
    let world = c.in_ok-world.world in
    let given = c.in_ok-world.ensures in
    record {
      circuit = given.circuit;
      cut = given.cut;
      stimulus = given.stimulus;
      horizon = given.horizon;
      least = c.least-least.ensures;
      few = omega arith;
      start = world;
      is_start = record { circuit_is = given.circuit; cut_is = given.cut; stimulus_is = given.stimulus; horizon_is = given.horizon; opening = given.opening; law = c.law.ensures };
      played = no_rounds c.args.order.now world;
    }

pub loop-least-smaller : goal.loop-least-smaller
loop-least-smaller c =
    let inv = c.loop-least.invariant in
    let higher = higher_than c.loop-least.world c.loop-least.least c.least-least-in-loop-least.result c.args.horizon inv.horizon c.loop-least-test.true
    (c.in-Ok.ensures.raised c.loop-least.least c.least-least-in-loop-least.result inv.least c.least-least-in-loop-least.ensures) in
    omega (arith, higher, c.loop-least-test.true)

pub loop-least-preserved : goal.loop-least-preserved
loop-least-preserved c =
    let inv = c.loop-least.invariant in
    let course = c.play_round.ensures.course in
    let higher = higher_than c.loop-least.world c.loop-least.least c.least-least-in-loop-least.result c.args.horizon inv.horizon c.loop-least-test.true
    (c.in-Ok.ensures.raised c.loop-least.least c.least-least-in-loop-least.result inv.least c.least-least-in-loop-least.ensures) in
    record {
      circuit = course.circuit ∙ inv.circuit;
      cut = course.cut ∙ inv.cut;
      stimulus = course.stimulus ∙ inv.stimulus;
      horizon = course.horizon ∙ inv.horizon;
      least = c.least-least-in-loop-least.ensures;
      few = (let few = inv.few in omega (arith, few, higher));
      start = inv.start;
      is_start = inv.is_start;
      played = rounds_more c.args.order.now c.loop-least.rounds inv.start c.loop-least.world c.play_round.new.self inv.played (c.loop-least.least, inv.least, omega (arith, inv.horizon, c.loop-least-test.true)) c.in-Ok.ensures.played;
    }

pub returns-in-Ok-finish-clause-rounds : goal.returns-in-Ok-finish-clause-rounds
returns-in-Ok-finish-clause-rounds c =
    let inv = c.loop-least.invariant in
    let world = c.loop-least.world in
    record {
      start = inv.start;
      is_start = inv.is_start;
      end = world;
      rounds = inv.played;
      least = subst (λ (t : ℕ). IsLeastTime world t) (let end = inv.least.before.end in omega (arith, end, c.loop-least-test.false, inv.horizon)) inv.least;
    }
