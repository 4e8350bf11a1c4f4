use Rattle.warp_stores.proofs.Times.{before-push}
use Rattle.warp_stores.proofs.laws.undo_gives_back.Goals as goal

pub returns : goal.returns
returns g c = λ words time word r h. before-push words time word r h
