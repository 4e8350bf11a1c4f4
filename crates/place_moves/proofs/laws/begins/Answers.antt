use Rattle.place_moves.proofs.Beginning.{begun_plays as the_law}
use Rattle.place_moves.proofs.laws.begins.Goals as goal

pub returns : goal.returns
returns c = the_law
