use Rattle.std.proofs.Common.{rules}
use Rattle.warp_rounds.proofs.Resting.{rests, rests_sends, rests_least, stays_sends, rest_refused}
use Rattle.warp_rounds.proofs.site.rest.Goals as goal

pub returns-clause-turn : goal.returns-clause-turn
returns-clause-turn g c =
    rests c.args.block.now c.commit.new.block c.args.messages.now c.args.floor c.args.window c.requires.none c.requires.short
    c.in_ok-commit.ensures.possible c.in_ok-commit.ensures.ok c.in_ok-commit.ensures.lawful

pub returns-clause-least : goal.returns-clause-least
returns-clause-least g c =
    let least = rests_least c.args.block.now c.commit.new.block c.args.messages.now c.args.floor c.args.next c.requires.none c.in_ok-commit.ensures.ok c.requires.next in
    search rules

pub returns-clause-sends : goal.returns-clause-sends
returns-clause-sends g c = rests_sends c.args.block.now c.commit.new.block c.args.floor _ c.in_ok-commit.ensures.ok

pub returns-in_err-commit-clause-fault : goal.returns-in_err-commit-clause-fault
returns-in_err-commit-clause-fault g c =
    let fault = rest_refused c.args.block.now c.commit.new.block c.args.messages.now c.args.floor c.args.window c.in_err-commit.field-0.0
    c.requires.none c.in_err-commit.ensures.err c.in_err-commit.ensures.refused in
    search rules

pub returns-in_err-commit-clause-sends : goal.returns-in_err-commit-clause-sends
returns-in_err-commit-clause-sends g c = stays_sends c.args.block.now c.commit.new.block _ c.in_err-commit.ensures.err
