use Rattle.std.proofs.Common.{◌≡◌, ℕ, ◌<◌, length, get_or}
use Rattle.warp_core.specs.Inner.Kept.{IsNextTime}
use Rattle.warp_core.specs.Matched.{seen_at}
use Rattle.warp_core.proofs.world.acts.note_next_times.Given as goal

abbrev pub invariant-loop-number : goal.invariant-loop-number
invariant-loop-number l = record {
  count : length l.next.items ≡ length l.blocks;
  times : (b : ℕ) → b < l.number → IsNextTime (seen_at l.blocks b) l.end (get_or l.next.items b 0);
}
