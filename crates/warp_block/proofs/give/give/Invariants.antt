use Rattle.std.proofs.Common.{◌≡◌, ℕ, ◌≤◌, vec_len}
use Rattle.net_waves.specs.Waves.{lists_in}
use Rattle.warp_block.specs.Inner.Give.{AreGiven}
use Rattle.warp_process.specs.Inner.Step.{log_at}
use Rattle.warp_block.proofs.give.give.Given as goal

-- so many places are given, and the logs of the others are still there
abbrev pub invariant-loop-slot : goal.invariant-loop-slot
invariant-loop-slot l = record {
  lists_len : vec_len l.lists ≡ vec_len l.fn.lists;
  logs_len : vec_len l.logs ≡ vec_len l.fn.logs;
  left : (i : ℕ) → l.slot ≤ i → log_at (lists_in l.logs.items) i ≡ log_at (lists_in l.fn.logs.items) i;
  given : AreGiven l.part (lists_in l.fn.logs.items) l.slot (lists_in l.fn.lists.items) (lists_in l.lists.items);
}
