use Rattle.place_moves.proofs.Stepping.{plays_on as the_law}
use Rattle.place_moves.proofs.laws.plays_on.Goals as goal

pub returns : goal.returns
returns c = the_law
