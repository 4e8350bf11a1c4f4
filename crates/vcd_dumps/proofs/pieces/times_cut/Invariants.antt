use Rattle.vcd_dumps.proofs.PieceLaws.{AreOpen}
use Rattle.vcd_dumps.proofs.pieces.times_cut.Given as goal

-- the cuts so far
abbrev pub invariant-loop-time : goal.invariant-loop-time
invariant-loop-time l = AreOpen l.cuts.items l.time
