use Rattle.std.proofs.Common.{ℕ, ◌<◌, get_or}
use Rattle.net_waves.specs.declared.timeline.Stop.{Stop}
use Rattle.net_waves.specs.Timeline.{AtMost}
use Rattle.net_waves.proofs.merging.count_ahead.Given as goal

-- the stops so far stand at most there
abbrev pub invariant-loop-at : goal.invariant-loop-at
invariant-loop-at l = (k : ℕ) (d : Stop) → k < l.at → AtMost (get_or l.run k d) (get_or l.other 0 d)
