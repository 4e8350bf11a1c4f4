use Rattle.std.proofs.Common.{◌≡◌, ◌-◌, ◌≤◌, [], replicate}
use Rattle.warp_rounds.specs.Inner.Rule.{empty_hand}
use Rattle.warp_rounds.specs.Seats.{empty_seat}
use Rattle.warp_rounds.proofs.round.Round.new.Given as goal

abbrev pub invariant-loop : goal.invariant-loop
invariant-loop l = record {
  same : l.own.table_id ≡ l.table.shared.table_id;
  words : l.own.table_id.words ≡ 2;
  slots : l.own.table_id.slots ≡ 0;
  blocks : l.table.shared.key.blocks ≡ l.blocks;
  seats : l.table.shared.key.seats ≡ l.seats;
  bound : l.counter ≤ l.seats;
  left : l.own.me ≡ (empty_hand l.blocks (l.seats - l.counter), []);
  dealt : l.places.items ≡ replicate l.counter (empty_seat (record { table = l.own.table_id; blocks = l.blocks }));
}
