use Rattle.warp_stores.proofs.Times.{since-before}
use Rattle.warp_stores.proofs.laws.nothing_later.Goals as goal

pub returns : goal.returns
returns g c = λ words time. since-before time words
