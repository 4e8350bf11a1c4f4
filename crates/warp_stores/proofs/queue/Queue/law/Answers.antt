use Rattle.std.proofs.Common.{subst}
use Rattle.warp_stores.specs.Dated.{Line, standing, Rises}
use Rattle.warp_stores.proofs.Queues.{Rises-standing}
use Rattle.warp_stores.proofs.queue.Queue.law.Goals as goal

pub returns : goal.returns
returns g c = subst (λ (x : Line g.row.T.Denot). Rises (standing x)) c.self.view_is (Rises-standing c.self.inside.stops.items c.self.inside.words.items c.self.inside.dead c.self.inside.read c.self.invariant)
