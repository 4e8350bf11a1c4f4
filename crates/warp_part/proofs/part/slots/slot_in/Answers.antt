use Rattle.std.proofs.Common.{Ok, Err, sym}
use Rattle.warp_part.proofs.PartPlaces.{place_there, place_found}
use Rattle.warp_part.proofs.part.slots.slot_in.Goals as goal

pub returns-then-nets-guess : goal.returns-then-nets-guess
returns-then-nets-guess c = place_there c.args.nets.now c.guess_of-guess.result c.args.net c.requires c.if-guess-nets.true c.if-nets-guess.true

pub returns-in-Ok : goal.returns-in-Ok
returns-in-Ok c = sym (place_found c.args.nets.now c.args.net (Ok c.in-Ok.slot) c.requires c.in-Ok.ensures.position)

pub returns-in-Err : goal.returns-in-Err
returns-in-Err c = sym (place_found c.args.nets.now c.args.net (Err c.in-Err.field-0) c.requires c.in-Err.ensures.position)
