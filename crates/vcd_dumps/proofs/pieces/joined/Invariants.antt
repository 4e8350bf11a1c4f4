use Rattle.std.proofs.Common.{◌≡◌, ◌++◌, ℕ, List}
use Rattle.vcd_dumps.specs.Inner.Pieces.{ArePieces}
use Rattle.vcd_dumps.proofs.pieces.joined.Given as goal

-- the pieces so far
abbrev pub invariant-loop-piece : goal.invariant-loop-piece
invariant-loop-piece l = (so_far : ℕ → List ℕ) → ArePieces so_far l.pieces → l.text.items ≡ l.fn.text.items ++ so_far l.piece-index
