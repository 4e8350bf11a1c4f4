use Rattle.std.proofs.Common.{ap, sym, subst}
use Rattle.warp_core.specs.declared.event.Event.TheVariants.{Commit}
use Rattle.warp_core.specs.Drive.{IsOrder}
use Rattle.warp_core.specs.Played.{IsStep}
use Rattle.warp_core.proofs.Driving.{course_then}
use Rattle.warp_core.proofs.Played.{never_falls}
use Rattle.warp_core.proofs.Turning.{round_is, round_begun, round_raised}
use Rattle.warp_core.proofs.world.World.play_round.Goals as goal

pub take_turns-answer-requires : goal.take_turns-answer-requires
take_turns-answer-requires c = subst (λ n. IsOrder n c.args.order.now) (ap (λ o. o.blocks) (sym c.commit.ensures.played.course.cut)) c.requires

pub returns-clause-course : goal.returns-clause-course
returns-clause-course c = course_then c.args.self.now c.commit.new.self c.take_turns-answer.new.self c.commit.ensures.played.course c.take_turns-answer.ensures.course

pub returns-clause-played : goal.returns-clause-played
returns-clause-played c =
    let step : IsStep Commit c.args.self.now c.commit.new.self = record { played = c.commit.ensures.played; law = c.law.ensures } in
    round_is c.args.order.now c.args.self.now c.commit.new.self c.take_turns-answer.new.self step c.take_turns-answer.result c.take_turns-answer.ensures.turned

pub returns-clause-begun : goal.returns-clause-begun
returns-clause-begun c =
    let step : IsStep Commit c.args.self.now c.commit.new.self = record { played = c.commit.ensures.played; law = c.law.ensures } in
    round_begun c.args.order.now c.args.self.now c.commit.new.self c.take_turns-answer.new.self step c.take_turns-answer.result c.take_turns-answer.ensures.begun

pub returns-clause-raised : goal.returns-clause-raised
returns-clause-raised c =
    round_raised c.args.order.now c.args.self.now c.commit.new.self c.take_turns-answer.new.self (course_then c.args.self.now c.commit.new.self c.take_turns-answer.new.self c.commit.ensures.played.course c.take_turns-answer.ensures.course)
    c.law-2.ensures c.commit.ensures.never_earlier (λ s h. c.take_turns-answer.ensures.never_earlier s (c.commit.ensures.never_earlier s h)) c.requires c.take_turns-answer.result c.take_turns-answer.ensures.turned

pub returns-clause-never_falls : goal.returns-clause-never_falls
returns-clause-never_falls c = never_falls c.args.self.now c.take_turns-answer.new.self (λ s h. c.take_turns-answer.ensures.never_earlier s (c.commit.ensures.never_earlier s h))
