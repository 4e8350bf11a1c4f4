use Rattle.std.proofs.Common.{◌≡◌, length}
use Rattle.std.specs.Hash.FoldHasher.{write}
use Rattle.gate_netlist.specs.Inner.Hashing.{stepped}
use Rattle.gate_netlist.proofs.seed.step.Given as goal

abbrev pub invariant-loop-rest : goal.invariant-loop-rest
invariant-loop-rest l = stepped write l.words l.rest ≡ stepped write l.initial.words l.bytes

abbrev pub decreases-loop-rest : goal.decreases-loop-rest
decreases-loop-rest l = length l.rest
