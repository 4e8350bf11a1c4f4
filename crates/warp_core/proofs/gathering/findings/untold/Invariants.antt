use Rattle.std.proofs.Common.{◌≡◌, ◌<◌, ℕ, None, get_or}
use Rattle.warp_core.specs.declared.gathering.findings.Finding.{Finding}
use Rattle.warp_core.proofs.gathering.findings.untold.Given as goal

-- the first blocks were told all
abbrev pub invariant-loop-number : goal.invariant-loop-number
invariant-loop-number l = (b : ℕ) (f : Finding) → b < l.number → (get_or l.found b f).untold ≡ None
