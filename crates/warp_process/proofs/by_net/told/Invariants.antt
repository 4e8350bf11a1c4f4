use Rattle.std.proofs.Common.{◌≡◌, ◌<◌, ℕ, [], get_or, vec_len}
use Rattle.warp_process.specs.Shown.Rows.{lists_in}
use Rattle.warp_process.proofs.Telling.{AreToldUntil}
use Rattle.warp_process.proofs.Walking.{AreLeft}
use Rattle.warp_process.proofs.by_net.told.Given as goal

-- what stands before a time is told, and the rows from there on are left
abbrev pub invariant-loop-time : goal.invariant-loop-time
invariant-loop-time l = record {
  count : vec_len l.lists ≡ l.places;
  told : (from : ℕ) × AreLeft l.rows from l.time-iterator × ((i : ℕ) → i < l.places → AreToldUntil l.rows i from (get_or (lists_in l.lists.items) i []));
}
