use Rattle.std.proofs.Common.{ℕ, drop, map}
use Rattle.net_waves.specs.Timeline.{stop_by}
use Rattle.vcd_dumps.specs.Shown.Written.{Rises}
use Rattle.vcd_dumps.proofs.writer.place_behind.Given as goal

-- with others behind them, the moves so far rise
abbrev pub invariant-loop-one : goal.invariant-loop-one
invariant-loop-one l = (end : ℕ) → Rises l.next (map (stop_by l.time) (drop l.one-index l.moves)) end → Rises l.place (map (stop_by l.time) l.moves) end
