use Rattle.std.proofs.Common.{◌≤◌, length, drop}
use Rattle.std.specs.List.{flat_map}
use Rattle.warp_stores.specs.Delays.{made_since}
use Rattle.warp_journal.proofs.Restoring.{AreRestoring}
use Rattle.warp_journal.proofs.stepping.restore_from.Given as goal

abbrev pub invariant-loop-left : goal.invariant-loop-left
invariant-loop-left l = (l.left ≤ length l.queues) × AreRestoring (flat_map (made_since l.step) (drop l.left l.queues)) l.initial.gates l.gates

abbrev pub decreases-loop-left : goal.decreases-loop-left
decreases-loop-left l = l.left
