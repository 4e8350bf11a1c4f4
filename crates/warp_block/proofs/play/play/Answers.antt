use Rattle.std.proofs.Common.{◌∙◌, refl, arith}
use Rattle.warp_engine.specs.Runs.{Run}
use Rattle.warp_process.specs.View.{View}
use Rattle.warp_process.specs.Played.{played_view}
use Rattle.warp_process.proofs.Playing.{played_lawful}
use Rattle.warp_process.proofs.SavingStep.{one_advanced}
use Rattle.warp_process.proofs.SavingAdvance.{more_advanced}
use Rattle.warp_block.proofs.Stepping.{at_shown, brought_past}
use Rattle.warp_block.proofs.play.play.Goals as goal

pub next_time-requires-clause-quiet : goal.next_time-requires-clause-quiet
next_time-requires-clause-quiet c = at_shown c.args.heard.now c.loop-finished.engine c.loop-finished.times c.loop-finished.invariant.at

pub loop-finished-preserved : goal.loop-finished-preserved
loop-finished-preserved c =
    let v : View = c.args.heard.now in
    let run : Run = c.loop-finished.engine in
    let new : Run = c.step.new.engine in
    let r = c.loop-finished.invariant.at.engine.received in
    let before = c.loop-finished.invariant.on in
    let more = c.step.ensures.on in
    record {
      at = c.step.ensures.at;
      brought = c.brought_after-brought.ensures;
      on = record {
        first = more.first ∙ before.first;
        on = (let a = before.on in let b = more.on in omega (arith, a, b));
      };
      advanced =
          more_advanced (played_view v c.args.engine.now.book.mark) (played_view v run.book.mark) (played_view v new.book.mark) c.loop-finished.finished (played_lawful v run.book.mark r) (played_lawful v new.book.mark r)
          c.loop-finished.invariant.advanced
          (one_advanced (played_view v run.book.mark) (played_view v new.book.mark) (played_lawful v run.book.mark r) (played_lawful v new.book.mark r) refl refl refl refl c.in-Some.time c.in_ok-step.ensures.mark c.in-Some.ensures);
    }

pub brought_after-brought-requires : goal.brought_after-brought-requires
brought_after-brought-requires c =
    brought_past c.args.heard.now c.loop-finished.engine c.loop-finished.times c.loop-finished.invariant.at c.in-Some.time c.in-Some.ensures c.loop-finished.brought c.loop-finished.invariant.brought c.step.new.engine.book.mark c.in_ok-step.ensures.mark
