use Rattle.std.proofs.Common.{◌≡◌, Some, map, take}
use Rattle.warp_core.proofs.gathering.findings.known.Given as goal

-- the first answers aren't missing
abbrev pub invariant-loop-answer : goal.invariant-loop-answer
invariant-loop-answer l = map Some l.found.items ≡ take l.answer-index l.answers
