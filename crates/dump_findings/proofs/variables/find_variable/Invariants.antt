use Rattle.std.proofs.Common.{length, ◌-◌, ◌≤◌, All}
use Rattle.finding_words.specs.Words.{IsWithin}
use Rattle.dump_findings.proofs.variables.find_variable.Given as goal

-- the words of the command so far stand in the text
abbrev pub invariant-loop-at : goal.invariant-loop-at
invariant-loop-at l = (l.at ≤ length l.text) × All (IsWithin (length l.text)) l.command.items

abbrev pub decreases-loop-at : goal.decreases-loop-at
decreases-loop-at l = length l.text - l.at
