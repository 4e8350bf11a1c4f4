use Rattle.warp_rounds.proofs.Accounting.{committed_counted}
use Rattle.warp_rounds.proofs.counts.commit.Goals as goal

pub returns-in-Ok-clause-counted : goal.returns-in-Ok-clause-counted
returns-in-Ok-clause-counted g c =
    committed_counted c.args.block.now c.commit.new.self c.args.floor c.args.counts.now c.law.ensures.seen c.in-Ok.ensures.possible c.in-Ok.ensures.ok c.requires.counted
