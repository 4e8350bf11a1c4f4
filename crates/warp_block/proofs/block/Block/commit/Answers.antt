use Rattle.warp_block.proofs.block.Block.commit.Goals as goal

pub returns-clause-refused : goal.returns-clause-refused
returns-clause-refused g c = rw (← c.self.view_is) c.commit.ensures.refused
