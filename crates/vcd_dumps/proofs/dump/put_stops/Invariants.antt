use Rattle.std.proofs.Common.{drop}
use Rattle.vcd_dumps.specs.Inner.Walk.{IsWalked}
use Rattle.vcd_dumps.proofs.dump.put_stops.Given as goal

-- the stops so far
abbrev pub invariant-loop-stop : goal.invariant-loop-stop
invariant-loop-stop g l = IsWalked (g.S.Sink.held l.fn.sink) (g.S.Sink.held l.sink) l.fn.lot l.lot l.fn.last l.last (drop l.stop-index l.stops) l.stops
