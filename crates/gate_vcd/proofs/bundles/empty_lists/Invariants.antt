use Rattle.std.proofs.Common.{◌≡◌, List, [], replicate}
use Rattle.gate_values.specs.declared.logic.Change.{Change}
use Rattle.net_waves.specs.Waves.{lists_in}
use Rattle.gate_vcd.proofs.bundles.empty_lists.Given as goal

abbrev pub invariant-loop : goal.invariant-loop
invariant-loop l = lists_in l.lists.items ≡ replicate {A = List Change} l.counter []
