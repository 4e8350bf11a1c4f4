use Rattle.warp_process.proofs.Playing.{played_lawful}
use Rattle.warp_process.proofs.played.received_is_lawful.Goals as goal

pub returns : goal.returns
returns c = played_lawful
