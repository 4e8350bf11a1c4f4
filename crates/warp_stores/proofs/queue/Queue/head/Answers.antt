use Rattle.std.proofs.Common.{◌∙◌, ◌≤◌, length, Some, sym, ap, arith}
use Rattle.warp_stores.proofs.Queues.{first_time-told}
use Rattle.warp_stores.proofs.queue.Queue.head.Goals as goal

pub returns-clause-first : goal.returns-clause-first
returns-clause-first g c =
    let within : c.self.inside.read.stops ≤ length c.self.inside.stops.items = c.self.invariant.span.end.within in
    rw (← c.self.view_is) (ap Some c.time.ensures.time ∙ sym (first_time-told c.self.inside.stops.items c.self.inside.words.items c.self.inside.dead c.self.inside.read c.index.result.now c.self.invariant (omega (arith, c.len.ensures, c.if-self-len.false)) c.index.ensures))
