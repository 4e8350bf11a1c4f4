use Rattle.std.proofs.Common.{◌≡◌, [], map, replicate}
use Rattle.net_waves.proofs.waves.Waves.new.Given as goal

-- so many empty lists
abbrev pub invariant-loop-net : goal.invariant-loop-net
invariant-loop-net l = map (λ list. list.items) l.lists.items ≡ replicate l._net []
