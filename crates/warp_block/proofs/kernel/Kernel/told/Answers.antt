use Rattle.warp_block.proofs.kernel.Kernel.told.Goals as goal

pub returns-clause-told : goal.returns-clause-told
returns-clause-told c = rw (← c.self.view_is) c.told.ensures.told
