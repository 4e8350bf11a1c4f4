use Rattle.std.proofs.Common.{drop}
use Rattle.vcd_dumps.specs.Inner.Walk.{IsWalked}
use Rattle.net_waves.specs.Keys.{stops_of_keys}
use Rattle.vcd_dumps.proofs.dump.put_keys.Given as goal

-- the keys so far
abbrev pub invariant-loop-key : goal.invariant-loop-key
invariant-loop-key g l = IsWalked (g.S.Sink.held l.fn.sink) (g.S.Sink.held l.sink) l.fn.lot l.lot l.fn.last l.last (stops_of_keys (drop l.key-index l.keys)) (stops_of_keys l.keys)
