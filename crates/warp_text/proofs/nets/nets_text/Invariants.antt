use Rattle.std.proofs.Common.{◌≡◌}
use Rattle.warp_text.specs.NetLines.{net_lines}
use Rattle.warp_text.proofs.nets.nets_text.Given as goal

abbrev pub invariant-loop-net : goal.invariant-loop-net
invariant-loop-net l = l.text.items ≡ net_lines l.circuit l.net
