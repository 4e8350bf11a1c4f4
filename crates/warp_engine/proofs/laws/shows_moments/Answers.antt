use Rattle.warp_engine.proofs.Saving.{values_are, contents_are, many_are}
use Rattle.warp_engine.proofs.laws.shows_moments.Goals as goal

pub returns-clause-values : goal.returns-clause-values
returns-clause-values c = values_are

pub returns-clause-contents : goal.returns-clause-contents
returns-clause-contents c = contents_are

pub returns-clause-many : goal.returns-clause-many
returns-clause-many c = many_are
