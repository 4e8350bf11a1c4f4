use Rattle.std.proofs.lemmas.List.Elements.{All-push, All-same}
use Rattle.warp_process.specs.Lawful.{IsLawfulProcess}
use Rattle.warp_rounds.proofs.Accounting.{counted_more}
use Rattle.warp_rounds.proofs.runs.take_out.Goals as goal

pub returns-clause-lawful : goal.returns-clause-lawful
returns-clause-lawful g c =
    All-same IsLawfulProcess _ _ c.in_ok-push.ensures.items (All-push IsLawfulProcess c.args.parted.now.blocks.items c.finished-finished.result.block c.requires.lawful c.finished-finished.ensures.lawful)

pub returns-clause-counted : goal.returns-clause-counted
returns-clause-counted g c =
    rw (c.in_ok-push.ensures.items, c.in_ok-push-2.ensures.items)
    (counted_more c.args.parted.now.blocks.items c.args.parted.now.counts.items c.finished-finished.result.block c.finished-finished.result.counts c.requires.counted c.finished-finished.ensures.counted)
