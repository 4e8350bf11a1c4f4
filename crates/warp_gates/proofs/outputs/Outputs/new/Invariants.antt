use Rattle.std.proofs.Common.{◌≡◌}
use Rattle.warp_gates.specs.Inner.Outputs.{entries}
use Rattle.warp_gates.proofs.outputs.Outputs.new.Given as goal

abbrev pub invariant-loop-entry : goal.invariant-loop-entry
invariant-loop-entry l = l.values.items ≡ entries l.entry
