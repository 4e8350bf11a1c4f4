use Rattle.std.proofs.Common.{◌+◌, ◌-◌}
use Rattle.warp_rounds.proofs.runs.rounds_of.Given as goal

abbrev pub decreases-loop-floor : goal.decreases-loop-floor
decreases-loop-floor g l = l.term.horizon + 1 - l.floor
