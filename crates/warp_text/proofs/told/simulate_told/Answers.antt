use Rattle.warp_text.proofs.told.simulate_told.Goals as goal

pub returns : goal.returns
returns g c = rw c.dump_alone.ensures c.simulate_told_watched-answer.ensures.dump
