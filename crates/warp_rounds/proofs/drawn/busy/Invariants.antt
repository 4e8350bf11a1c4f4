use Rattle.std.proofs.Common.{◌<◌, length}
use Rattle.warp_rounds.proofs.drawn.busy.Given as goal

abbrev pub invariant-loop-step : goal.invariant-loop-step
invariant-loop-step g l = l.idle < length l.sites
