use Rattle.std.proofs.Common.{drop, map}
use Rattle.vcd_dumps.specs.Inner.Walk.{IsWalked}
use Rattle.net_waves.specs.Timeline.{stop_by}
use Rattle.vcd_dumps.proofs.writer.put_moves.Given as goal

-- the moves so far
abbrev pub invariant-loop-one : goal.invariant-loop-one
invariant-loop-one g l = IsWalked (g.S.Sink.held l.fn.sink) (g.S.Sink.held l.sink) l.fn.lot l.lot l.fn.last l.last (map (stop_by l.time) (drop l.one-index l.moves)) (map (stop_by l.time) l.moves)
