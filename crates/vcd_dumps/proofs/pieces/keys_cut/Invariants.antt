use Rattle.std.proofs.Common.{◌-◌, ◌≤◌, ℕ}
use Rattle.vcd_dumps.proofs.PieceLaws.{AreOpen}
use Rattle.vcd_dumps.proofs.pieces.keys_cut.Given as goal

-- the cuts so far
abbrev pub invariant-loop-at : goal.invariant-loop-at
invariant-loop-at l = (last : ℕ) × (last ≤ l.at) × (last ≤ l.keys) × AreOpen l.cuts.items last

abbrev pub decreases-loop-at : goal.decreases-loop-at
decreases-loop-at l = l.keys - l.at
