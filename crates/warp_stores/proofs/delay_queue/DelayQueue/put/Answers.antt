use Rattle.std.proofs.Common.{[], ◌∷◌}
use Rattle.warp_stores.proofs.Queues.{on_ok_both}
use Rattle.warp_stores.proofs.Delaying.{put_due}
use Rattle.warp_stores.proofs.delay_queue.DelayQueue.put.Goals as goal

pub returns-clause-due : goal.returns-clause-due
returns-clause-due c = λ some.
    on_ok_both c.append.result c.append.ensures.ok c.append.ensures.ok
    (λ is _. put_due c.args.step (c.args.word ∷ []) c.self.inside.delay c.self.inside.words c.append.new.self c.args.self.now c.self.view_is c.law.ensures c.requires.order is some)
