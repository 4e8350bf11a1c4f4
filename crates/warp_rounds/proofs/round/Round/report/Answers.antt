use Rattle.std.proofs.Common.{rules}
use Rattle.warp_rounds.proofs.Steps.{report_keeps}
use Rattle.warp_rounds.proofs.round.Round.report.Goals as goal

pub fetch_min-requires : goal.fetch_min-requires
fetch_min-requires c = (search rules, search rules, report_keeps _ _ _ _ _ _ c.seat.invariant.one)
