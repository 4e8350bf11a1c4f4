use Rattle.warp_sends.specs.Told.{IsTimeOf}
use Rattle.warp_sends.proofs.Sending.{takes_back_shorter, at_times}
use Rattle.warp_sends.proofs.laws.takes_back_what_is_shorter.Goals as goal

pub returns : goal.returns
returns c = λ old new words before out lawful part horizon longer until told. takes_back_shorter old new (IsTimeOf words) words before out lawful part longer (at_times words) until told
