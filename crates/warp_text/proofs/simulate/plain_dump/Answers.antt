use Rattle.std.proofs.Common.{◌∙◌, codes}
use Rattle.warp_text.proofs.Simulating.{dump-means}
use Rattle.warp_text.proofs.simulate.plain_dump.Goals as goal

pub returns-in-Some : goal.returns-in-Some
returns-in-Some g c =
    let (r, read, means) = c.in_ok-stimulus.ensures in
    let dump = rw c.in-Some.is at c.in_ok-dump.ensures in
    (r, read, dump ∙ dump-means (codes "top") c.args.circuit.now r c.in_ok-stimulus.stimulus c.args.options.now.until means)

pub returns : goal.returns
returns g c =
    let (r, read, means) = c.in_ok-stimulus.ensures in
    (r, read, (rw c.until-until.ensures at c.in_ok-dump_by.ensures) ∙ dump-means (codes "top") c.args.circuit.now r c.in_ok-stimulus.stimulus c.args.options.now.until means)
