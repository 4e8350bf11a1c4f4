use Rattle.std.proofs.Common.{◌≤◌, ◌∷◌, [], length, drop}
use Rattle.std.specs.List.{flat_map}
use Rattle.warp_gates.specs.declared.put.Put.{Put}
use Rattle.warp_journal.proofs.Restoring.{AreRestoring}
use Rattle.warp_journal.proofs.stepping.restore_puts.Given as goal

abbrev pub invariant-loop-left : goal.invariant-loop-left
invariant-loop-left l = (l.left ≤ length l.puts) × AreRestoring (flat_map (λ (p : Put). p.word ∷ []) (drop l.left l.puts)) l.initial.gates l.gates

abbrev pub decreases-loop-left : goal.decreases-loop-left
decreases-loop-left l = l.left
