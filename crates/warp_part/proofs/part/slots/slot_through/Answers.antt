use Rattle.warp_part.proofs.PartPlaces.{place_there}
use Rattle.warp_part.proofs.part.slots.slot_through.Goals as goal

pub returns-then-nets-guess : goal.returns-then-nets-guess
returns-then-nets-guess c = place_there c.args.nets.now c.guess_through-guess.result c.args.net c.requires c.if-guess-nets.true c.if-nets-guess.true
