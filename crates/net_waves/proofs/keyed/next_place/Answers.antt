use Rattle.std.proofs.Common.{arith}
use Rattle.net_waves.proofs.Appending.{keys-behind}
use Rattle.net_waves.proofs.keyed.next_place.Goals as goal

pub returns-in-len1-up : goal.returns-in-len1-up
returns-in-len1-up c more rise = keys-behind 0 c.args.keys.now more (omega arith) c.requires rise
