use Rattle.std.proofs.Common.{◌∙◌, sym}
use Rattle.warp_block.proofs.Stepping.{at_shown}
use Rattle.warp_block.proofs.Outplayed.{none_quiet, none_done}
use Rattle.warp_block.proofs.ending.play_quiet.Goals as goal

pub next_time-requires-clause-quiet : goal.next_time-requires-clause-quiet
next_time-requires-clause-quiet c = at_shown c.args.heard.now c.args.engine.now c.args.times.now c.requires.at

pub play_rest-requires-clause-quiet : goal.play_rest-requires-clause-quiet
play_rest-requires-clause-quiet c = none_quiet c.args.heard.now c.args.engine.now.book.mark c.next_time.result (sym c.is_some.ensures ∙ c.if-is_some.false) c.next_time.ensures

pub returns-clause-done : goal.returns-clause-done
returns-clause-done c = λ _. none_done c.args.heard.now c.args.engine.now.book.mark c.next_time.result (sym c.is_some.ensures ∙ c.if-is_some.false) c.next_time.ensures
