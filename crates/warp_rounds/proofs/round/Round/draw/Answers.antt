use Rattle.std.proofs.Common.{rules}
use Rattle.warp_rounds.proofs.Steps.{draw_keeps}
use Rattle.warp_rounds.proofs.round.Round.draw.Goals as goal

pub fetch_add-number-requires : goal.fetch_add-number-requires
fetch_add-number-requires c = (search rules, search rules, draw_keeps _ _ _ _ _ (search rules) (search rules))
