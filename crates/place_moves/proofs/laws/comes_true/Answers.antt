use Rattle.place_moves.proofs.Coming.{value-later, value-first}
use Rattle.place_moves.proofs.laws.comes_true.Goals as goal

pub returns-clause-later : goal.returns-clause-later
returns-clause-later c = value-later

pub returns-clause-first : goal.returns-clause-first
returns-clause-first c = value-first
