use Rattle.std.proofs.Common.{arith}
use Rattle.net_waves.proofs.Waving.{in_step-none}
use Rattle.net_waves.proofs.waves.Waves.new.Goals as goal

pub invariant_of-result : goal.invariant_of-result
invariant_of-result c = in_step-none c.loop-net._net _ _ (omega arith) c.loop-net.invariant c.new-2.ensures
