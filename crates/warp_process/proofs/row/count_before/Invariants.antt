use Rattle.std.proofs.Common.{◌≤◌, length}
use Rattle.std.specs.List.{AllWithin}
use Rattle.warp_process.specs.Rows.{Standing}
use Rattle.warp_process.proofs.row.count_before.Given as goal

-- the entries from the place on aren't before the place
abbrev pub invariant-loop-count : goal.invariant-loop-count
invariant-loop-count l = record {
  within : l.count ≤ length l.row;
  late : AllWithin (λ (e : Standing). l.place ≤ e.place) l.row l.count (length l.row);
}

abbrev pub decreases-loop-count : goal.decreases-loop-count
decreases-loop-count l = l.count
