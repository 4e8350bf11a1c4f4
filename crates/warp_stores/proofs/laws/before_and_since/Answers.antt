use Rattle.warp_stores.proofs.Times.{before_since}
use Rattle.warp_stores.proofs.laws.before_and_since.Goals as goal

pub returns : goal.returns
returns g c = λ words time r. before_since time 0 words r
