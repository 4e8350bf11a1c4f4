use Rattle.std.proofs.Common.{◌≡◌, ℕ, [], get_or, vec_len}
use Rattle.warp_process.specs.Shown.Rows.{lists_in}
use Rattle.warp_process.proofs.by_net.empty_lists.Given as goal

-- the lists so far are empty
abbrev pub invariant-loop : goal.invariant-loop
invariant-loop l = record {
  count : vec_len l.lists ≡ l.counter;
  empty : (i : ℕ) → get_or (lists_in l.lists.items) i [] ≡ [];
}
