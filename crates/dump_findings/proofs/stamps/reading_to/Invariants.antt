use Rattle.std.proofs.Common.{length, ◌-◌, ◌≤◌}
use Rattle.finding_words.specs.Words.{IsWithin}
use Rattle.dump_findings.proofs.stamps.reading_to.Given as goal

-- the last stamp stands in the text
abbrev pub invariant-loop-at : goal.invariant-loop-at
invariant-loop-at l = (l.at ≤ length l.front) × IsWithin (length l.front) l.stamp

abbrev pub decreases-loop-at : goal.decreases-loop-at
decreases-loop-at l = length l.front - l.at
