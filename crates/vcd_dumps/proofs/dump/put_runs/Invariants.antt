use Rattle.std.proofs.Common.{suc, length}
use Rattle.net_waves.specs.Waves.{wave_value}
use Rattle.net_waves.specs.Merging.{lefts}
use Rattle.net_waves.specs.Inner.Merging.{flat}
use Rattle.vcd_dumps.specs.Inner.Merged.{IsMerged}
use Rattle.vcd_dumps.proofs.Stops.{all_stops}
use Rattle.vcd_dumps.proofs.dump.put_runs.Given as goal

-- the stops so far
abbrev pub invariant-loop-run : goal.invariant-loop-run
invariant-loop-run g l = IsMerged (g.S.Sink.held l.fn.sink) (g.S.Sink.held l.sink) l.fn.lot l.lot l.last (lefts l.runs) (all_stops (wave_value g.lists) (length g.lists) (suc l.horizon))

abbrev pub decreases-loop-run : goal.decreases-loop-run
decreases-loop-run g l = length (flat (lefts l.runs))
