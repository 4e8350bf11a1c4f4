use Rattle.std.proofs.Common.{◌≡◌, ◌<◌, ◌≤◌, ℕ, get_or}
use Rattle.warp_process.specs.Entries.{entry_in, no_messages, IsQueue}
use Rattle.warp_process.specs.Inner.Rows.{entry_at, AreRows}
use Rattle.warp_process.specs.Opening.{opening_queue}
use Rattle.warp_process.proofs.heard.Heard.new.Given as goal

-- the first places have what they begin with
abbrev pub invariant-loop-slot : goal.invariant-loop-slot
invariant-loop-slot l = record {
  rows : AreRows l.rows;
  queues : (i : ℕ) → i < l.slot → IsQueue (opening_queue l.fn.part l.stimulus l.horizon (get_or l.fn.part.nets i 0));
  opened : (t i : ℕ) → i < l.slot → entry_at l.rows t i ≡ entry_in (opening_queue l.fn.part l.stimulus l.horizon (get_or l.fn.part.nets i 0)) t;
  rest : (t i : ℕ) → l.slot ≤ i → entry_at l.rows t i ≡ no_messages;
}
