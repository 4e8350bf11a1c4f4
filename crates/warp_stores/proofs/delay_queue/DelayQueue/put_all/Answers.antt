use Rattle.warp_stores.proofs.Queues.{on_ok_both}
use Rattle.warp_stores.proofs.Delaying.{put_due}
use Rattle.warp_stores.proofs.delay_queue.DelayQueue.put_all.Goals as goal

pub returns-clause-due : goal.returns-clause-due
returns-clause-due c = λ some.
    on_ok_both c.append_all.result c.append_all.ensures.ok c.append_all.ensures.ok
    (λ is _. put_due c.args.step c.args.words.now c.self.inside.delay c.self.inside.words c.append_all.new.self c.args.self.now c.self.view_is c.law.ensures c.requires.order is some)
