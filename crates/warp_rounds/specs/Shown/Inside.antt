-- What the fields of a round and of a seat keep, and how the seats are taken in at the end.
use Rattle.warp_rounds.specs.declared.round.Round.TheInside as round
use Rattle.warp_rounds.specs.declared.round.RoundSeat.TheInside as seat
use Rattle.warp_rounds.specs.Seats.{RoundView, SeatView}

abbrev pub view_of_round : round.Inside → RoundView
view_of_round r = record { round = record { table = r.table.shared.table_id; blocks = r.blocks }; seats = r.seats }

abbrev pub view_of_seat : seat.Inside → SeatView
view_of_seat s = record {
  round = record { table = s.seat.table_id; blocks = s.seat.me.0.blocks };
  draws = s.seat.me.0.draws;
  least = s.seat.me.0.least;
  marked = s.marked;
}
