use Rattle.std.proofs.Common.{arith}
use Rattle.warp_block.proofs.Stepping.{least_on, brought_on}
use Rattle.warp_block.proofs.play.step.Goals as goal

pub play_time-requires-clause-next : goal.play_time-requires-clause-next
play_time-requires-clause-next c =
    least_on c.args.heard.now c.args.engine.now c.args.times.now c.requires.at c.args.time c.requires.next c.begin.new.engine.book.mark c.begin.ensures.on.on
    (let e = c.in_ok-begin.ensures.mark in let l = c.if-time-gt0.true in omega (arith, e, l))

pub play_time-requires-clause-brought : goal.play_time-requires-clause-brought
play_time-requires-clause-brought c =
    brought_on c.args.heard.now c.args.engine.now c.args.times.now c.requires.at c.args.time c.requires.next c.args.brought c.requires.brought c.begin.new.engine.book.mark c.begin.ensures.on.on
    (let e = c.in_ok-begin.ensures.mark in let l = c.if-time-gt0.true in omega (arith, e, l))
