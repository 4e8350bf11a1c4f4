use Rattle.std.proofs.Common.{arith}
use Rattle.warp_stores.proofs.Seats.{quarters_within, quarter}
use Rattle.warp_stores.proofs.least.quarter_by.Goals as goal

pub count_later-passed-requires : goal.count_later-passed-requires
count_later-passed-requires c = omega (arith, quarters_within c.args.seat c.requires.seat c.requires.wide)

pub returns : goal.returns
returns c =
    let passed = c.count_later-passed.ensures in
    quarter c.args.time c.args.seat c.requires.tournament c.requires.seat c.requires.wide c.requires.found c.count_later-passed.result passed.few passed.later passed.found
