use Rattle.std.proofs.Common.{ap, ◌∙◌, arith}
use Rattle.warp_stores.specs.Delays.{due_of}
use Rattle.warp_stores.proofs.Delaying.{due_first}
use Rattle.warp_stores.proofs.delay_queue.DelayQueue.due.Goals as goal

pub returns-in-Some : goal.returns-in-Some
returns-in-Some c = due_first c.self.inside.delay c.in-Some.step c.self.inside.words c.law.ensures c.in-Some.ensures.first (omega (arith, c.in-Some.ensures.within)) ∙ ap due_of c.self.view_is
