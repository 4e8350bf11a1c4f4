use Rattle.warp_part.proofs.Placing.{shown_at, held_at}
use Rattle.warp_part.proofs.laws.places_stand.Goals as goal

pub returns-clause-shown : goal.returns-clause-shown
returns-clause-shown c = shown_at

pub returns-clause-held : goal.returns-clause-held
returns-clause-held c = held_at
