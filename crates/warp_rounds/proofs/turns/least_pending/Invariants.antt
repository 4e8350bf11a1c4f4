use Rattle.std.proofs.Common.{take}
use Rattle.warp_process.specs.View.{IsLeast}
use Rattle.warp_rounds.specs.Turn.{IsPending}
use Rattle.warp_rounds.proofs.turns.least_pending.Given as goal

abbrev pub invariant-loop-message : goal.invariant-loop-message
invariant-loop-message g l = IsLeast (IsPending l.block.seen (take l.message-index l.messages)) l.least
