use Rattle.std.proofs.Common.{◌≡◌, ℕ, false, subst, arith}
use Rattle.warp_process.specs.Played.{played_view}
use Rattle.warp_process.specs.View.{is_busy}
use Rattle.warp_block.proofs.Outplayed.{quiet_on}
use Rattle.warp_block.proofs.ending.play_rest.Goals as goal

pub play_last-requires-clause-quiet : goal.play_last-requires-clause-quiet
play_last-requires-clause-quiet c = λ t a b. c.requires.quiet t a (omega (arith, b))

pub begin-requires-clause-quiet : goal.begin-requires-clause-quiet
begin-requires-clause-quiet c =
    let zero_mark : c.args.engine.now.book.mark ≡ 0 = omega (arith, c.mark.ensures, c.if-mark-gt0.false) in
    subst (λ (m : ℕ). is_busy (played_view c.args.heard.now m) 0 ≡ false) zero_mark (c.requires.quiet 0 (omega (arith, zero_mark)) (omega arith))

pub play_last-requires-2-clause-quiet : goal.play_last-requires-2-clause-quiet
play_last-requires-2-clause-quiet c =
    quiet_on c.args.heard.now c.requires.at.engine.received c.args.engine.now.book.mark c.begin.new.engine.book.mark (omega (arith, c.mark.ensures, c.if-mark-gt0.false)) c.requires.quiet
