use Rattle.std.proofs.Common.{rules}
use Rattle.warp_rounds.proofs.Working.{both_visits}
use Rattle.warp_rounds.proofs.drawn.play_near.Goals as goal

pub returns-clause-visits : goal.returns-clause-visits
returns-clause-visits g c =
    let both = both_visits _ _ _ _ c.requires.before c.in_ok-turn.ensures.visits in
    search rules
