use Rattle.warp_block.proofs.kernel.Kernel.receive.Goals as goal

pub returns-then-branch-clause-sends : goal.returns-then-branch-clause-sends
returns-then-branch-clause-sends c = c.in_ok-take_first.ensures.sends c.if-branch.true c.args.out.now.items

pub returns-clause-sends : goal.returns-clause-sends
returns-clause-sends c = rw (c.in_ok-take_first.ensures.left c.if-branch.false) at c.take.ensures.sends
