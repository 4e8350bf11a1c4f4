use Rattle.std.proofs.Common.{arith}
use Rattle.history_waves.proofs.Pending.{own_more, at_all}
use Rattle.history_waves.proofs.merging.list_own.Goals as goal

pub loop-word-preserved : goal.loop-word-preserved
loop-word-preserved c =
    own_more c.args.own.now c.args.time c.args.words.now c.loop-word.word-index c.word-item.result c.loop-word-test.true c.word-item.is
    c.args.moves.now.items c.loop-word.moves.items c.list_word.new.moves.items c.loop-word.invariant c.in_ok-list_word.ensures

pub returns : goal.returns
returns c = rw (← at_all c.args.time c.args.words.now c.loop-word.word-index (omega (arith, c.loop-word-test.false))) c.loop-word.invariant
