use Rattle.warp_text.proofs.simulate.run_cut.Goals as goal

pub returns-clause-counts : goal.returns-clause-counts
returns-clause-counts g c = (c.args.cut.now, rw c.in_ok-stats.ensures.counts (rw c.until.ensures at c.in_ok-watched.ensures.counts))
