use Rattle.std.proofs.Common.{ℕ, All}
use Rattle.finding_words.specs.Words.{IsWithin}
use Rattle.line_findings.proofs.bench.first_open.Given as goal

-- what the line uses stands where all of its pieces do
abbrev pub invariant-loop-piece : goal.invariant-loop-piece
invariant-loop-piece l = (size : ℕ) → All (IsWithin size) l.fn.pieces → All (IsWithin size) l.piece-items
