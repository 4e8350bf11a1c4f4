use Rattle.std.proofs.Common.{◌≡◌, ◌-◌, ◌≤◌, length, arith}
use Rattle.warp_stores.specs.Dated.{standing}
use Rattle.warp_stores.specs.Shown.Stops.{end_of, line_of}
use Rattle.warp_stores.proofs.Telling.{length-span}
use Rattle.warp_stores.proofs.Queues.{live_span, length-standing, many_dead}
use Rattle.warp_stores.proofs.queue.Queue.has_many_dead.Goals as goal

pub overflow_sub-result : goal.overflow_sub-result
overflow_sub-result g c =
    let within : c.self.inside.dead.words ≤ length c.self.inside.words.items = (length-span c.self.inside.stops.items c.self.inside.words.items c.self.inside.dead (end_of c.self.inside.stops.items c.self.inside.words.items) (live_span c.self.invariant) c.self.invariant.whole).0 in
    omega (arith, c.len.ensures)

pub returns : goal.returns
returns g c =
    let stands : length (standing (line_of c.self.inside.stops.items c.self.inside.words.items c.self.inside.dead c.self.inside.read)) ≡ length c.self.inside.words.items - c.self.inside.dead.words = length-standing c.self.inside.stops.items c.self.inside.words.items c.self.inside.dead c.self.inside.read c.self.invariant in
    let len : c.len.result ≡ length c.self.inside.words.items = omega (arith, c.len.ensures) in
    rw (c.saturating_sub.ensures, len, ← c.self.view_is, stands) (many_dead (length c.self.inside.words.items - c.self.inside.dead.words) c.self.inside.dead.words 4096)
