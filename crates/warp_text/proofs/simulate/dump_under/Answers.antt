use Rattle.std.proofs.Common.{◌∙◌, codes}
use Rattle.warp_text.proofs.Simulating.{dump-means}
use Rattle.warp_text.proofs.simulate.dump_under.Goals as goal

pub returns-clause-dump : goal.returns-clause-dump
returns-clause-dump g c =
    let (r, read, means) = c.in_ok-stimulus.ensures in
    (r, read, (rw c.until.ensures at c.in_ok-dump.ensures) ∙ dump-means (codes "top") c.args.circuit.now r c.in_ok-stimulus.stimulus c.args.options.now.until means)

pub returns-clause-counts : goal.returns-clause-counts
returns-clause-counts g c = (c.in_ok-stimulus.stimulus, c.in_ok-ran.ensures.counts)
