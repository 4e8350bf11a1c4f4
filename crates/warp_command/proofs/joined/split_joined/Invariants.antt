use Rattle.std.proofs.Common.{◌-◌, length}
use Rattle.warp_command.proofs.Parting.{IsPassed}
use Rattle.warp_command.proofs.joined.split_joined.Given as goal

abbrev pub invariant-loop-at : goal.invariant-loop-at
invariant-loop-at l = IsPassed l.text l.at

abbrev pub decreases-loop-at : goal.decreases-loop-at
decreases-loop-at l = length l.text - l.at
