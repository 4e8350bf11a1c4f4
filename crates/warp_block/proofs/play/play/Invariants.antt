use Rattle.warp_process.specs.Advance.{IsAdvanced}
use Rattle.warp_process.specs.Played.{played_view}
use Rattle.part_engine.specs.Runs.{IsNextBrought}
use Rattle.warp_block.specs.Inner.Held.{IsAt, GoesOn}
use Rattle.warp_block.proofs.play.play.Given as goal

abbrev pub invariant-loop-finished : goal.invariant-loop-finished
invariant-loop-finished l = record {
  at : IsAt l.heard l.engine l.times;
  brought : IsNextBrought l.heard l.engine.book.mark l.brought;
  on : GoesOn l.fn.engine l.engine l.fn.times l.times;
  advanced : IsAdvanced (played_view l.heard l.fn.engine.book.mark) (played_view l.heard l.engine.book.mark) l.finished;
}
