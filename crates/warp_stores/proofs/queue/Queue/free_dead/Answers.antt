use Rattle.warp_stores.specs.Shown.Stops.{end_of}
use Rattle.warp_stores.proofs.Telling.{length-span}
use Rattle.warp_stores.proofs.Queues.{live_span, line_equal, queue_freed, line_freed}
use Rattle.warp_stores.proofs.queue.Queue.free_dead.Goals as goal

pub drop_front-requires-2 : goal.drop_front-requires-2
drop_front-requires-2 g c = (length-span c.self.inside.stops.items c.self.inside.words.items c.self.inside.dead (end_of c.self.inside.stops.items c.self.inside.words.items) (live_span c.self.invariant) c.self.invariant.whole).0

pub overflow_sub-self-2 : goal.overflow_sub-self-2
overflow_sub-self-2 g c = (length-span c.self.inside.stops.items c.self.inside.words.items c.self.inside.dead c.self.inside.read c.self.invariant.span c.self.invariant.whole).0

pub invariant_of-self : goal.invariant_of-self
invariant_of-self g c = rw (c.drop_front.ensures, c.drop_front-2.ensures) (queue_freed c.self.inside.stops.items c.self.inside.words.items c.self.inside.dead c.self.inside.read c.self.invariant)

pub returns : goal.returns
returns g c =
    rw (c.drop_front.ensures, c.drop_front-2.ensures, ← c.self.view_is) (line_equal 0 _ _ _ _ ((line_freed c.self.inside.stops.items c.self.inside.words.items c.self.inside.dead c.self.inside.read c.self.invariant).0) ((line_freed c.self.inside.stops.items c.self.inside.words.items c.self.inside.dead c.self.inside.read c.self.invariant).1))
