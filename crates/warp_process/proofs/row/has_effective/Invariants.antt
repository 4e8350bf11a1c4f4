use Rattle.std.proofs.Common.{◌≡◌, ℕ, ◌<◌, None, get_or}
use Rattle.warp_process.specs.Entries.{effective_of}
use Rattle.warp_process.specs.Rows.{Standing}
use Rattle.warp_process.proofs.row.has_effective.Given as goal

-- the first entries have no effective value
abbrev pub invariant-loop-placed : goal.invariant-loop-placed
invariant-loop-placed l = (k : ℕ) (d : Standing) → k < l.placed-index → effective_of (get_or l.row k d).entry ≡ None
