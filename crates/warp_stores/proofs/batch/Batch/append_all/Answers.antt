use Rattle.warp_stores.proofs.Queues.{on_either, on_ok_both}
use Rattle.warp_stores.proofs.Batches.{batch_more}
use Rattle.warp_stores.proofs.batch.Batch.append_all.Goals as goal

pub invariant_of-self : goal.invariant_of-self
invariant_of-self g c =
    on_either c.append_all.result c.append_all.ensures.stops c.append_all.ensures.words c.append_all.ensures.stops_err c.append_all.ensures.words_err
    (λ stops words. rw words (batch_more c.args.time c.self.inside.stops.items c.append_all.new.stops.items c.self.inside.words.items c.args.words.now c.self.invariant stops).0)
    (λ stops words. rw (stops, words) c.self.invariant)

pub returns-clause-ok : goal.returns-clause-ok
returns-clause-ok g c =
    on_ok_both c.append_all.result c.append_all.ensures.stops c.append_all.ensures.words
    (λ stops words. rw (words, ← c.self.view_is) (batch_more c.args.time c.self.inside.stops.items c.append_all.new.stops.items c.self.inside.words.items c.args.words.now c.self.invariant stops).1)
