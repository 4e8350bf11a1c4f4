use Rattle.warp_sends.specs.Told.{IsTimeOf}
use Rattle.warp_sends.proofs.Sending.{tells_longer, at_times}
use Rattle.warp_sends.proofs.laws.tells_what_is_longer.Goals as goal

pub returns : goal.returns
returns c = λ old new words before out lawful part horizon longer until told. tells_longer old new (IsTimeOf words) words before out lawful part longer (at_times words) until told
