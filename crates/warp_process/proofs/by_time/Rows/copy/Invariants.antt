use Rattle.std.proofs.Common.{◌≡◌, ◌≤◌, ◌<◌, ◌-◌, ℕ}
use Rattle.warp_process.specs.Entries.{no_messages}
use Rattle.warp_process.specs.Inner.Rows.{entry_at, AreRows}
use Rattle.warp_process.proofs.by_time.Rows.copy.Given as goal

-- the rows before a time are copied
abbrev pub invariant-loop-from : goal.invariant-loop-from
invariant-loop-from l = record {
  rows : AreRows l.rows;
  copied : (t i : ℕ) → t < l.from → entry_at l.rows t i ≡ entry_at l.self t i;
  rest : (t i : ℕ) → l.from ≤ t → entry_at l.rows t i ≡ no_messages;
}

abbrev pub decreases-loop-from : goal.decreases-loop-from
decreases-loop-from l = l.end - l.from
