use Rattle.place_moves.proofs.Quieting.{quiet_until as the_law}
use Rattle.place_moves.proofs.laws.stands_still.Goals as goal

pub returns : goal.returns
returns c = the_law
