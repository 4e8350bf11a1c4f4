use Rattle.std.proofs.Common.{[], ◌∷◌}
use Rattle.warp_stores.proofs.Delaying.{put_due}
use Rattle.warp_stores.proofs.delay_queue.DelayQueue.join.Goals as goal

pub returns-clause-due : goal.returns-clause-due
returns-clause-due c = λ some is. put_due c.args.step (c.args.word ∷ []) c.self.inside.delay c.self.inside.words c.join.new.self c.args.self.now c.self.view_is c.law.ensures c.requires.order (c.join.ensures.joined is) some
