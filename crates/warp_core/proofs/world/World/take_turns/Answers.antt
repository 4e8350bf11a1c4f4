use Rattle.warp_core.proofs.world.World.take_turns.Goals as goal

pub returns-clause-never_earlier : goal.returns-clause-never_earlier
returns-clause-never_earlier c = rw (← c.self.view_is) c.play_turns-answer.ensures.never_earlier
