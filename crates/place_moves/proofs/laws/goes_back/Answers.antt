use Rattle.place_moves.proofs.Backing.{back_plays}
use Rattle.place_moves.proofs.Regiving.{given_plays}
use Rattle.place_moves.proofs.laws.goes_back.Goals as goal

pub returns-clause-back : goal.returns-clause-back
returns-clause-back c = λ source given floor time old new played low high back. back_plays source given floor old played time low high new back

pub returns-clause-anew : goal.returns-clause-anew
returns-clause-anew c = given_plays
