use Rattle.std.proofs.Common.{Ok, Err}
use Rattle.part_engine.proofs.Queueing.{found_place}
use Rattle.part_engine.proofs.queued.place_in.Goals as goal

pub returns-in-Ok-clause-place : goal.returns-in-Ok-clause-place
returns-in-Ok-clause-place c = found_place c.args.numbers.now c.args.number (Ok c.in-Ok.place) c.requires.rising c.in-Ok.ensures.position

pub returns-in-Err-clause-place : goal.returns-in-Err-clause-place
returns-in-Err-clause-place c = found_place c.args.numbers.now c.args.number (Err c.in-Err.field-0) c.requires.rising c.in-Err.ensures.position
