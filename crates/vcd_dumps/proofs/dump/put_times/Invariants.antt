use Rattle.vcd_dumps.proofs.PackedWalk.{AreTold}
use Rattle.vcd_dumps.proofs.dump.put_times.Given as goal

-- the times so far
abbrev pub invariant-loop-time : goal.invariant-loop-time
invariant-loop-time g l = AreTold (g.S.Sink.held l.fn.sink) (g.S.Sink.held l.sink) l.fn.lot l.lot l.last l.packed l.from l.time
