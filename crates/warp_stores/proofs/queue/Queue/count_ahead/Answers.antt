use Rattle.std.proofs.Common.{◌≡◌, ◌≤◌, length, sym, arith}
use Rattle.warp_stores.specs.Shown.Stops.{end_of}
use Rattle.warp_stores.proofs.Telling.{length-span, length-told}
use Rattle.warp_stores.proofs.Queues.{ahead_span}
use Rattle.warp_stores.proofs.queue.Queue.count_ahead.Goals as goal

pub overflow_sub-result : goal.overflow_sub-result
overflow_sub-result g c =
    let within : c.self.inside.read.words ≤ length c.self.inside.words.items = (length-span c.self.inside.stops.items c.self.inside.words.items c.self.inside.read (end_of c.self.inside.stops.items c.self.inside.words.items) (ahead_span c.self.invariant) c.self.invariant.whole).0 in
    omega (arith, c.len.ensures)

pub returns : goal.returns
returns g c =
    let len : c.len.result ≡ length c.self.inside.words.items = omega (arith, c.len.ensures) in
    rw (len, ← c.self.view_is) (sym (length-told c.self.inside.stops.items c.self.inside.words.items c.self.inside.read (end_of c.self.inside.stops.items c.self.inside.words.items) (ahead_span c.self.invariant) c.self.invariant.whole))
