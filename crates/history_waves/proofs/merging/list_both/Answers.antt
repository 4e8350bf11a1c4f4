use Rattle.std.proofs.Common.{arith}
use Rattle.history_waves.proofs.Pending.{listed_more, at_all}
use Rattle.history_waves.proofs.merging.list_both.Goals as goal

pub loop-word-preserved : goal.loop-word-preserved
loop-word-preserved c =
    let h = c.loop-word.invariant in (
      omega (arith, h.0, c.in_ok-next.ensures.within.0),
      c.in_ok-next.ensures.within.1,
      listed_more c.args.own.now c.args.time c.args.words.now c.loop-word.word-index c.word-item.result c.loop-word-test.true c.word-item.is c.args.given.now c.args.from c.loop-word.next c.in_ok-next.next
          c.args.moves.now.items c.loop-word.moves.items c.list_given.new.moves.items c.list_word.new.moves.items h.2 c.in_ok-next.ensures.listed c.in_ok-list_word.ensures,
    )

pub returns-clause-listed : goal.returns-clause-listed
returns-clause-listed c = rw (← at_all c.args.time c.args.words.now c.loop-word.word-index (omega (arith, c.loop-word-test.false))) c.loop-word.invariant.2
