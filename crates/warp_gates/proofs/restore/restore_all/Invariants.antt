use Rattle.std.proofs.Common.{◌≤◌, length, drop}
use Rattle.warp_gates.specs.Inner.Undoing.{AreRestored}
use Rattle.warp_gates.proofs.restore.restore_all.Given as goal

abbrev pub invariant-loop-left : goal.invariant-loop-left
invariant-loop-left l = record {
  within : l.left ≤ length l.words;
  restored : AreRestored l.wiring (drop l.left l.words) l.initial.fronts l.fronts;
}

abbrev pub decreases-loop-left : goal.decreases-loop-left
decreases-loop-left l = l.left
