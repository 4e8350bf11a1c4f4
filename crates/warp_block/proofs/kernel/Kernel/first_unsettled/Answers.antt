use Rattle.warp_block.proofs.kernel.Kernel.first_unsettled.Goals as goal

pub returns-clause-none : goal.returns-clause-none
returns-clause-none c = rw (← c.self.view_is) (rw c.horizon.ensures.horizon at c.first_unsettled.ensures.none)

pub returns-clause-some : goal.returns-clause-some
returns-clause-some c = rw (← c.self.view_is) (rw c.horizon.ensures.horizon at c.first_unsettled.ensures.some)
