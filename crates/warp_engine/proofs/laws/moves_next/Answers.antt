use Rattle.warp_engine.proofs.Nexting.{still_until, next_move, due_ahead, NextMove}
use Rattle.warp_engine.proofs.laws.moves_next.Goals as goal

pub returns-clause-quiet : goal.returns-clause-quiet
returns-clause-quiet c = λ source given floor time book played parted alone due place t used low high. still_until source given floor book played parted time alone due place t used low high

pub returns-clause-moves : goal.returns-clause-moves
returns-clause-moves c = λ source given floor book played parted l.
    let next : NextMove source given floor book played = next_move source given floor book played parted l in
    (next.place, next.used, next.driven, next.soon, next.moves)

pub returns-clause-ahead : goal.returns-clause-ahead
returns-clause-ahead c = due_ahead
