use Rattle.std.proofs.Common.{◌≡◌, List, [], replicate}
use Rattle.net_waves.specs.declared.timeline.Stop.{Stop}
use Rattle.gate_vcd.specs.Inner.Bundles.{waiting_in}
use Rattle.gate_vcd.proofs.bundles.none_waiting.Given as goal

abbrev pub invariant-loop : goal.invariant-loop
invariant-loop l = waiting_in l.waiting.items ≡ replicate {A = List Stop} l.counter []
