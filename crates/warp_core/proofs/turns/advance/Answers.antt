use Rattle.warp_core.proofs.TurnSteps.{advanced_open, advanced_is, advanced_before}
use Rattle.warp_core.proofs.turns.advance.Goals as goal

pub returns-in-Ok-clause-stands : goal.returns-in-Ok-clause-stands
returns-in-Ok-clause-stands c =
    advanced_open c.args.course.now c.args.blocks.now.items c.args.flight.now.items c.args.heard.now c.requires.stands c.args.number c.requires.within c.run.new.blocks.items c.run.new.flight.items c.run.ensures.others c.run.ensures.lawful c.run.ensures.sends
    c.in-Ok.field-0 c.in-Ok.ensures.ok

pub returns-in-Ok-clause-played : goal.returns-in-Ok-clause-played
returns-in-Ok-clause-played c = (
  c.in-Ok.field-0,
  advanced_is c.args.course.now c.args.blocks.now.items c.args.flight.now.items c.args.heard.now c.requires.stands c.args.number c.requires.within c.run.new.blocks.items c.run.new.flight.items c.run.ensures.others c.run.ensures.lawful c.run.ensures.sends
      c.in-Ok.field-0 c.in-Ok.ensures.ok,
  c.in-Ok.ensures.all,
)

pub returns-in-Ok-clause-never_earlier : goal.returns-in-Ok-clause-never_earlier
returns-in-Ok-clause-never_earlier c =
    advanced_before c.args.course.now c.args.blocks.now.items c.args.flight.now.items c.args.heard.now c.requires.stands c.args.number c.requires.within c.run.new.blocks.items c.run.new.flight.items c.run.ensures.others c.run.ensures.lawful c.run.ensures.sends
    c.in-Ok.field-0 c.in-Ok.ensures.ok

pub returns-in-Err-clause-stands : goal.returns-in-Err-clause-stands
returns-in-Err-clause-stands c =
    advanced_open c.args.course.now c.args.blocks.now.items c.args.flight.now.items c.args.heard.now c.requires.stands c.args.number c.requires.within c.run.new.blocks.items c.run.new.flight.items c.run.ensures.others c.run.ensures.lawful c.run.ensures.sends
    c.in-Err.ensures.some.0 c.in-Err.ensures.some.2

pub returns-in-Err-clause-after : goal.returns-in-Err-clause-after
returns-in-Err-clause-after c = (
  c.in-Err.ensures.some.0,
  c.in-Err.ensures.some.1,
  advanced_is c.args.course.now c.args.blocks.now.items c.args.flight.now.items c.args.heard.now c.requires.stands c.args.number c.requires.within c.run.new.blocks.items c.run.new.flight.items c.run.ensures.others c.run.ensures.lawful c.run.ensures.sends
      c.in-Err.ensures.some.0 c.in-Err.ensures.some.2,
)

pub returns-in-Err-clause-never_earlier : goal.returns-in-Err-clause-never_earlier
returns-in-Err-clause-never_earlier c =
    advanced_before c.args.course.now c.args.blocks.now.items c.args.flight.now.items c.args.heard.now c.requires.stands c.args.number c.requires.within c.run.new.blocks.items c.run.new.flight.items c.run.ensures.others c.run.ensures.lawful c.run.ensures.sends
    c.in-Err.ensures.some.0 c.in-Err.ensures.some.2
