use Rattle.warp_engine.proofs.Making.{makings_later, makings_made}
use Rattle.warp_engine.proofs.laws.makings_are_later.Goals as goal

pub returns-clause-later : goal.returns-clause-later
returns-clause-later c = makings_later

pub returns-clause-made : goal.returns-clause-made
returns-clause-made c = makings_made
