use Rattle.warp_block.proofs.block.Block.first_unsettled.Goals as goal

pub returns-clause-some : goal.returns-clause-some
returns-clause-some g c = rw (← c.self.view_is) c.first_unsettled.ensures.some
