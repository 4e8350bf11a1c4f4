use Rattle.warp_block.proofs.Resting.{rest_shown, least_up}
use Rattle.warp_block.proofs.kernel.Kernel.next_time.Goals as goal

pub next_time-requires-clause-quiet : goal.next_time-requires-clause-quiet
next_time-requires-clause-quiet c = rest_shown c.self.inside.heard c.self.inside.engine c.self.inside.times c.self.invariant.at

pub returns : goal.returns
returns c = rw (← c.self.view_is) (least_up c.self.inside.heard c.self.inside.engine c.self.inside.times c.self.invariant.at c.next_time.result c.next_time.ensures)
