use Rattle.warp_engine.proofs.Opening.{run_opens}
use Rattle.warp_engine.proofs.laws.has_opened.Goals as goal

pub returns : goal.returns
returns c = run_opens
