use Rattle.std.proofs.Common.{length, ◌+◌, All}
use Rattle.finding_words.specs.Words.{IsWithin}
use Rattle.finding_words.proofs.form.pieces.Given as goal

-- the pieces so far stand in the line
abbrev pub invariant-loop-place : goal.invariant-loop-place
invariant-loop-place l = All (IsWithin (l.line.at + length l.line.text.now)) l.pieces.items
