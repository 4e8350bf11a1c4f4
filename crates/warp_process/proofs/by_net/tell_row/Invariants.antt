use Rattle.std.proofs.Common.{◌≡◌, ℕ, [], get_or, take, vec_len}
use Rattle.warp_process.specs.Entries.{effective_of}
use Rattle.warp_process.specs.Rows.{entry_on}
use Rattle.warp_process.specs.Shown.Rows.{lists_in}
use Rattle.warp_process.specs.Inner.Told.{with_message}
use Rattle.warp_process.proofs.by_net.tell_row.Given as goal

-- the first entries are told
abbrev pub invariant-loop-placed : goal.invariant-loop-placed
invariant-loop-placed l = record {
  count : vec_len l.lists ≡ vec_len l.fn.lists;
  told : (i : ℕ) → get_or (lists_in l.lists.items) i [] ≡ with_message l.time (effective_of (entry_on (take l.placed-index l.row) i)) (get_or (lists_in l.fn.lists.items) i []);
}
