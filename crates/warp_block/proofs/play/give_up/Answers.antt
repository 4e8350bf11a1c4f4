use Rattle.warp_block.proofs.Stepping.{may_give_up, at_given_up}
use Rattle.warp_block.proofs.play.give_up.Goals as goal

pub go_back-requires : goal.go_back-requires
go_back-requires c = may_give_up c.args.heard.now c.args.engine.now c.args.times.now c.requires.at c.args.time c.requires.low c.requires.high c.requires.quiet

pub returns-clause-at : goal.returns-clause-at
returns-clause-at c =
    at_given_up c.args.heard.now c.args.engine.now c.args.times.now c.requires.at c.args.time c.requires.low c.requires.high c.requires.quiet c.go_back.new.self c.go_back.ensures c.cut_from.new.self c.cut_from.ensures
