use Rattle.std.proofs.Common.{◌≡◌, ◌∙◌, ℕ, ◌-◌, ◌≤◌, length, get_or, sym, ap, arith}
use Rattle.warp_stores.proofs.Queues.{last_time-told}
use Rattle.warp_stores.proofs.queue.Queue.last_time.Goals as goal

pub returns : goal.returns
returns g c =
    let within : c.self.inside.dead.stops ≤ length c.self.inside.stops.items = c.self.invariant.span.begin.within in
    let len : c.len-2.result ≡ length c.self.inside.stops.items = omega (arith, c.len-2.ensures) in
    let last : c.index.result.now ≡ get_or c.self.inside.stops.items (length c.self.inside.stops.items - 1) c.index.result.now = c.index.ensures ∙ ap (λ (k : ℕ). get_or c.self.inside.stops.items (k - 1) c.index.result.now) len in
    rw (← c.self.view_is) (c.time.ensures.time ∙ sym (last_time-told c.self.inside.stops.items c.self.inside.words.items c.self.inside.dead c.self.inside.read c.index.result.now c.self.invariant (omega (arith, c.len.ensures, c.if-len-self.false)) last))
