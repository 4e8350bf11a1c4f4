use Rattle.place_moves.proofs.Beginning.{forgotten_plays as the_law}
use Rattle.place_moves.proofs.laws.forgets.Goals as goal

pub returns : goal.returns
returns c = the_law
