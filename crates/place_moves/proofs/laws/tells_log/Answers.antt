use Rattle.place_moves.proofs.Asking.{history-chained, history-tells}
use Rattle.place_moves.proofs.Telling.{log_is, changes_grow}
use Rattle.place_moves.proofs.laws.tells_log.Goals as goal

pub returns-clause-chained : goal.returns-clause-chained
returns-clause-chained c = history-chained

pub returns-clause-last : goal.returns-clause-last
returns-clause-last c = history-tells

pub returns-clause-ahead : goal.returns-clause-ahead
returns-clause-ahead c = log_is

pub returns-clause-more : goal.returns-clause-more
returns-clause-more c = changes_grow
