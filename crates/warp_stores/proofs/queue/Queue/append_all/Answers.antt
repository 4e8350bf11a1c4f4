use Rattle.std.proofs.Common.{◌≤◌, sym, subst}
use Rattle.warp_stores.specs.Dated.{Line, last_time, standing}
use Rattle.warp_stores.specs.Shown.Stops.{line_of}
use Rattle.warp_stores.proofs.Queues.{line_equal, on_either, on_ok_both, Grows}
use Rattle.warp_stores.proofs.Extending.{queue_extends}
use Rattle.warp_stores.proofs.queue.Queue.append_all.Goals as goal

pub invariant_of-self : goal.invariant_of-self
invariant_of-self g c =
    let late : last_time (standing (line_of c.self.inside.stops.items c.self.inside.words.items c.self.inside.dead c.self.inside.read)) ≤ c.args.time = subst (λ (x : Line g.row.T.Denot). last_time (standing x) ≤ c.args.time) (sym c.self.view_is) c.requires.order in
    on_either c.append_all.result c.append_all.ensures.stops c.append_all.ensures.words c.append_all.ensures.stops_err c.append_all.ensures.words_err
    (λ stops words. rw words (queue_extends c.args.time c.self.inside.stops.items c.append_all.new.stops.items c.self.inside.words.items c.args.words.now c.self.inside.dead c.self.inside.read c.self.invariant stops late).queue)
    (λ stops words. rw (stops, words) c.self.invariant)

pub returns-clause-ok : goal.returns-clause-ok
returns-clause-ok g c =
    let late : last_time (standing (line_of c.self.inside.stops.items c.self.inside.words.items c.self.inside.dead c.self.inside.read)) ≤ c.args.time = subst (λ (x : Line g.row.T.Denot). last_time (standing x) ≤ c.args.time) (sym c.self.view_is) c.requires.order in
    on_ok_both c.append_all.result c.append_all.ensures.stops c.append_all.ensures.words
    (λ stops words.
    let grows : Grows c.args.time c.self.inside.stops.items c.append_all.new.stops.items c.self.inside.words.items c.args.words.now c.self.inside.dead c.self.inside.read = queue_extends c.args.time c.self.inside.stops.items c.append_all.new.stops.items c.self.inside.words.items c.args.words.now c.self.inside.dead c.self.inside.read c.self.invariant stops late in
    rw (words, ← c.self.view_is) (line_equal c.self.inside.dead.words _ _ _ _ grows.told_read grows.told_ahead))
