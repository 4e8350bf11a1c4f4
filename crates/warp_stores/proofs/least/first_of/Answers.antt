use Rattle.std.proofs.Common.{◌/◌, length, arith}
use Rattle.warp_stores.proofs.Seats.{seat_root, seat_later}
use Rattle.warp_stores.proofs.least.first_of.Goals as goal

pub descend-requires-clause-seat : goal.descend-requires-clause-seat
descend-requires-clause-seat c = seat_root c.args.nodes.now c.requires.tournament c.requires.power

pub returns-then-nodes-time-clause-passed : goal.returns-then-nodes-time-clause-passed
returns-then-nodes-time-clause-passed c = λ k a b.
    seat_later c.args.time (record { node = 1; width = length c.args.nodes.now / 2; leaf = length c.args.nodes.now / 2 }) c.requires.tournament (seat_root c.args.nodes.now c.requires.tournament c.requires.power) (omega arith) k a (omega (arith, b))
