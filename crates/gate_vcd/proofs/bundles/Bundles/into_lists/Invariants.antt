use Rattle.std.proofs.Common.{◌≡◌, length}
use Rattle.gate_vcd.specs.Inner.Bundles.{waiting_in, with_waiting}
use Rattle.net_waves.specs.Waves.{lists_in}
use Rattle.gate_vcd.proofs.bundles.Bundles.into_lists.Given as goal

-- the lists are the same, with what still waits
abbrev pub invariant-loop-stops : goal.invariant-loop-stops
invariant-loop-stops l = with_waiting 0 (waiting_in l.waiting.items) (lists_in l.lists.items) ≡ with_waiting 0 (waiting_in l.initial.waiting.items) (lists_in l.initial.lists.items)

abbrev pub decreases-loop-stops : goal.decreases-loop-stops
decreases-loop-stops l = length l.waiting.items
