use Rattle.std.proofs.Common.{◌≡◌, take}
use Rattle.warp_process.proofs.row.copy.Given as goal

-- so many entries are copied
abbrev pub invariant-loop-placed : goal.invariant-loop-placed
invariant-loop-placed l = l.copy.items ≡ take l.placed-index l.row
