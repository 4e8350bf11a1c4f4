use Rattle.std.proofs.Common.{◌≤◌, [], ◌∷◌, sym, subst, inr}
use Rattle.warp_stores.specs.Dated.{Line, last_time, standing}
use Rattle.warp_stores.specs.Shown.Stops.{line_of}
use Rattle.warp_stores.proofs.Queues.{line_equal, on_answer, Grows, queue_grows}
use Rattle.warp_stores.proofs.queue.Queue.join.Goals as goal

pub invariant_of-self : goal.invariant_of-self
invariant_of-self g c =
    let late : last_time (standing (line_of c.self.inside.stops.items c.self.inside.words.items c.self.inside.dead c.self.inside.read)) ≤ c.args.time = subst (λ (x : Line g.row.T.Denot). last_time (standing x) ≤ c.args.time) (sym c.self.view_is) c.requires in
    on_answer c.join.result c.join.ensures.joined c.join.ensures.words c.join.ensures.stops_stay c.join.ensures.words_stay
    (λ stops words. rw words (queue_grows c.args.time c.self.inside.stops.items c.join.new.stops.items c.self.inside.words.items c.args.word c.self.inside.dead c.self.inside.read c.self.invariant (inr stops) late).queue)
    (λ stops words. rw (stops, words) c.self.invariant)

pub returns-clause-joined : goal.returns-clause-joined
returns-clause-joined g c = λ is.
    let late : last_time (standing (line_of c.self.inside.stops.items c.self.inside.words.items c.self.inside.dead c.self.inside.read)) ≤ c.args.time = subst (λ (x : Line g.row.T.Denot). last_time (standing x) ≤ c.args.time) (sym c.self.view_is) c.requires in
    let grows : Grows c.args.time c.self.inside.stops.items c.join.new.stops.items c.self.inside.words.items (c.args.word ∷ []) c.self.inside.dead c.self.inside.read = queue_grows c.args.time c.self.inside.stops.items c.join.new.stops.items c.self.inside.words.items c.args.word c.self.inside.dead c.self.inside.read c.self.invariant (inr (c.join.ensures.joined is)) late in
    rw (c.join.ensures.words is, ← c.self.view_is) (line_equal c.self.inside.dead.words _ _ _ _ grows.told_read grows.told_ahead)
