use Rattle.std.proofs.Common.{◌≡◌, ◌≤◌, List, length, drop}
use Rattle.warp_gates.specs.Cells.{Cell, unmoved}
use Rattle.warp_gates.specs.Inner.Fronts.{AreReaders, AreFronts, AreTouched}
use Rattle.warp_gates.proofs.front.unshow_all.Given as goal

abbrev pub invariant-loop-left : goal.invariant-loop-left
invariant-loop-left l = record {
  within : l.left ≤ length l.words;
  values : l.values ≡ unmoved (drop l.left l.words) l.initial.values;
  fronts : (cells : List Cell) → AreReaders cells l.readers → AreFronts cells l.initial.values l.initial.fronts → AreFronts cells l.values l.fronts;
  touched : AreTouched l.readers (drop l.left l.words) l.initial.fronts l.fronts;
}

abbrev pub decreases-loop-left : goal.decreases-loop-left
decreases-loop-left l = l.left
