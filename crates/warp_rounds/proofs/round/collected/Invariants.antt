use Rattle.std.proofs.Common.{◌≡◌, [], All}
use Rattle.std.specs.Vec.Iter.{into_iter_items}
use Rattle.warp_rounds.specs.Inner.Inside.{IsOfTable, IsTakenIn}
use Rattle.warp_rounds.proofs.round.collected.Given as goal

abbrev pub invariant-loop-place : goal.invariant-loop-place
invariant-loop-place l = record {
  can_next : (goal.iterator-loop-place).can_next l.place-iterator;
  is_finite : (goal.iterator-loop-place).is_finite l.place-iterator;
  same : l.own.table_id ≡ l.table.shared.table_id;
  no_slot : l.own.me.1 ≡ [];
  ours : All (IsOfTable l.table.shared.table_id) (into_iter_items l.place-iterator);
  taken : IsTakenIn l.own.me.0 (into_iter_items l.place-iterator) l.fn.seats.items;
}
