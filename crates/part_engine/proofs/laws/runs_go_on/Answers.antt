use Rattle.part_engine.proofs.GoingOn.{runs_go_on}
use Rattle.part_engine.proofs.laws.runs_go_on.Goals as goal

pub returns : goal.returns
returns c = runs_go_on
