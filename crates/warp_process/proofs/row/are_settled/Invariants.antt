use Rattle.std.proofs.Common.{◌≡◌, ℕ, ◌<◌, true, get_or}
use Rattle.warp_process.specs.Entries.{is_settled}
use Rattle.warp_process.specs.Rows.{Standing}
use Rattle.warp_process.proofs.row.are_settled.Given as goal

-- the first entries are settled
abbrev pub invariant-loop-placed : goal.invariant-loop-placed
invariant-loop-placed l = (k : ℕ) (d : Standing) → k < l.placed-index → is_settled (get_or l.row k d).entry ≡ true
