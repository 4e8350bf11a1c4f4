use Rattle.std.proofs.Common.{◌≡◌, ◌<◌, ℕ, false, get_or}
use Rattle.warp_core.specs.declared.gathering.findings.Finding.{Finding}
use Rattle.warp_core.proofs.gathering.findings.other_part.Given as goal

-- the first blocks are of their parts
abbrev pub invariant-loop-number : goal.invariant-loop-number
invariant-loop-number l = (b : ℕ) (f : Finding) → b < l.number → (get_or l.found b f).is_other ≡ false
