use Rattle.std.proofs.Common.{◌≡◌, ◌<◌, ℕ, get_or, vec_len}
use Rattle.warp_core.specs.declared.gathering.findings.Finding.{Finding}
use Rattle.warp_core.specs.Inner.Findings.{IsFinding}
use Rattle.warp_core.proofs.gathering.findings.find.Given as goal

-- so many blocks have been looked at
abbrev pub invariant-loop-number : goal.invariant-loop-number
invariant-loop-number g l = record {
  count : vec_len l.found ≡ l.number;
  each : (b : ℕ) (f : Finding) → b < l.number → IsFinding l.circuit l.cut l.stimulus l.horizon l.blocks b (get_or l.found.items b f);
}
