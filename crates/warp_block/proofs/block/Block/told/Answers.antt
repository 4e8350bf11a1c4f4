use Rattle.warp_block.proofs.block.Block.told.Goals as goal

pub returns-clause-told : goal.returns-clause-told
returns-clause-told g c = rw (← c.self.view_is) c.told.ensures.told
