use Rattle.std.proofs.Common.{length, ◌-◌, ◌≡◌, ◌≤◌, ◌++◌, false, take}
use Rattle.byte_sinks.proofs.put.put_all.Given as goal

-- the sink has taken the first bytes and hasn't failed
abbrev pub invariant-loop-at : goal.invariant-loop-at
invariant-loop-at g l = record {
  within : l.at ≤ length l.bytes;
  taken : (g.S.Sink.held l.sink).bytes ≡ (g.S.Sink.held l.fn.sink).bytes ++ take l.at l.bytes;
  sound : (g.S.Sink.held l.sink).failed ≡ false;
}

abbrev pub decreases-loop-at : goal.decreases-loop-at
decreases-loop-at g l = length l.bytes - l.at
