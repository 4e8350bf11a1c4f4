use Rattle.std.proofs.Common.{length}
use Rattle.gate_vcd.proofs.RunLaws.{KeepsOthers}
use Rattle.gate_vcd.proofs.runs.Runs.clear.Given as goal

-- the starts elsewhere stay
abbrev pub invariant-loop-start : goal.invariant-loop-start
invariant-loop-start l = KeepsOthers l.base l.low l.high l.initial.self.starts l.self.starts

abbrev pub decreases-loop-start : goal.decreases-loop-start
decreases-loop-start l = length l.self.starts.entries
