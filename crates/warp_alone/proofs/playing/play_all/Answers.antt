use Rattle.std.proofs.Common.{arith}
use Rattle.warp_alone.proofs.Stepping.{none_before, past}
use Rattle.warp_alone.proofs.playing.play_all.Goals as goal

pub play_to-requires-clause-quiet : goal.play_to-requires-clause-quiet
play_to-requires-clause-quiet g c =
    none_before c.args.heard.now c.loop-brought.engine.book.mark c.next_stop-time.result c.loop-brought.brought c.loop-brought.invariant.brought (rw c.mark-in-loop-brought-2.ensures at c.next_stop-time.ensures.brought) c.requires.floor

pub brought_after-brought-requires : goal.brought_after-brought-requires
brought_after-brought-requires g c =
    past c.args.heard.now c.loop-brought.engine.book.mark c.next_stop-time.result c.loop-brought.brought c.loop-brought.invariant.brought (rw c.mark-in-loop-brought-2.ensures at c.next_stop-time.ensures.brought)
    (omega (arith, c.mark-in-loop-brought-2.ensures, c.next_stop-time.ensures.from)) c.play_to.new.engine.book.mark c.in_ok-play_to.ensures.mark
