use Rattle.warp_text.proofs.simulate.simulate_text.Goals as goal

pub returns : goal.returns
returns g c = rw c.dump_alone.ensures c.simulate_watched-answer.ensures.dump
