use Rattle.std.proofs.Common.{◌+◌, ◌-◌, ◌<◌, ◌≤◌}
use Rattle.part_engine.specs.Runs.{IsEngine, IsNextBrought}
use Rattle.warp_alone.proofs.playing.play_all.Given as goal

-- the engine is the part's, and it is known when something is brought next
abbrev pub invariant-loop-brought : goal.invariant-loop-brought
invariant-loop-brought g l = record {
  engine : IsEngine l.heard l.engine;
  some : 0 < l.engine.book.mark;
  within : l.engine.book.mark ≤ l.heard.horizon + 1;
  brought : IsNextBrought l.heard l.engine.book.mark l.brought;
}

abbrev pub decreases-loop-brought : goal.decreases-loop-brought
decreases-loop-brought g l = (l.heard.horizon + 1) - l.engine.book.mark
