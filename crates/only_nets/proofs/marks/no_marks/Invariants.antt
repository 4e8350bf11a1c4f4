use Rattle.std.proofs.Common.{◌≡◌, []}
use Rattle.only_nets.specs.Marks.{marks}
use Rattle.only_nets.proofs.marks.no_marks.Given as goal

-- the nets so far
abbrev pub invariant-loop-net : goal.invariant-loop-net
invariant-loop-net l = l.all.items ≡ marks l._net []
