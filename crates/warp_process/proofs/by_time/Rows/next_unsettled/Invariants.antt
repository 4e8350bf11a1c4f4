use Rattle.std.proofs.Common.{◌≡◌, ◌≤◌, ◌<◌, ◌-◌, ℕ, true}
use Rattle.warp_process.specs.Entries.{is_settled}
use Rattle.warp_process.specs.Inner.Rows.{entry_at}
use Rattle.warp_process.proofs.by_time.Rows.next_unsettled.Given as goal

-- the entries of the place before a time are settled
abbrev pub invariant-loop-start : goal.invariant-loop-start
invariant-loop-start l = record {
  later : l.from ≤ l.start;
  passed : (t : ℕ) → l.from ≤ t → t < l.start → is_settled (entry_at l.self t l.place) ≡ true;
}

abbrev pub decreases-loop-start : goal.decreases-loop-start
decreases-loop-start l = l.end - l.start
