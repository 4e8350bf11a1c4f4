use Rattle.warp_core.proofs.Histories.{told_ok}
use Rattle.warp_core.proofs.gathering.waves.told_by.Goals as goal

pub returns-in-Some : goal.returns-in-Some
returns-in-Some c = λ old new step told. told_ok c.args.given.now c.in-Some.stories.items old new step (rw c.in-Some.is at told) c.by_time_of_all.result c.by_time_of_all.ensures
