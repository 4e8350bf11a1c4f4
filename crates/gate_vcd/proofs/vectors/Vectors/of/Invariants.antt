use Rattle.std.proofs.Common.{◌≤◌, length, drop}
use Rattle.gate_vcd.specs.Shown.Commands.{variables}
use Rattle.gate_vcd.specs.Inner.Scalars.{AreVectors}
use Rattle.gate_vcd.proofs.vectors.Vectors.of.Given as goal

-- the vectors among the variables from the place on are kept
abbrev pub invariant-loop-at : goal.invariant-loop-at
invariant-loop-at l = record {
  within : l.at ≤ length l.all;
  kept : AreVectors l.vectors (drop l.at (variables l.all));
}

abbrev pub decreases-loop-at : goal.decreases-loop-at
decreases-loop-at l = l.at
