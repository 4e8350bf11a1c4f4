use Rattle.std.proofs.Common.{length, ◌-◌, ◌+◌, ◌≤◌, All}
use Rattle.finding_words.specs.Words.{IsWithin}
use Rattle.finding_words.proofs.lines.words_in.Given as goal

-- the words so far stand in the line
abbrev pub invariant-loop-at : goal.invariant-loop-at
invariant-loop-at l = (l.at ≤ length l.line.text.now) × All (IsWithin (l.line.at + length l.line.text.now)) l.words.items

abbrev pub decreases-loop-at : goal.decreases-loop-at
decreases-loop-at l = length l.line.text.now - l.at
