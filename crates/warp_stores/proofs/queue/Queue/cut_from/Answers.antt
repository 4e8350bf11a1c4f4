use Rattle.std.proofs.Common.{arith}
use Rattle.warp_stores.specs.Inner.Stops.{IsParted}
use Rattle.warp_stores.specs.Shown.Stops.{end_of}
use Rattle.warp_stores.proofs.Queues.{queue_cut, line_cut_behind, line_cut_ahead}
use Rattle.warp_stores.proofs.queue.Queue.cut_from.Goals as goal

pub invariant_of-self : goal.invariant_of-self
invariant_of-self g c =
    let parted : IsParted c.args.time c.self.inside.stops.items c.self.inside.dead (end_of c.self.inside.stops.items c.self.inside.words.items) c.last_before-kept.result = rw (c.as_slice.ensures.value, c.end_of-end.ensures) at c.last_before-kept.ensures in
    rw (c.truncate.ensures.items, c.truncate-2.ensures.items) (queue_cut c.self.inside.stops.items c.self.inside.words.items c.self.inside.dead c.self.inside.read c.last_before-kept.result c.self.invariant parted.low c.last_before-kept.result parted.low (omega arith))

pub invariant_of-self-else-kept-self : goal.invariant_of-self-else-kept-self
invariant_of-self-else-kept-self g c =
    let parted : IsParted c.args.time c.self.inside.stops.items c.self.inside.dead (end_of c.self.inside.stops.items c.self.inside.words.items) c.last_before-kept.result = rw (c.as_slice.ensures.value, c.end_of-end.ensures) at c.last_before-kept.ensures in
    rw (c.truncate.ensures.items, c.truncate-2.ensures.items) (queue_cut c.self.inside.stops.items c.self.inside.words.items c.self.inside.dead c.self.inside.read c.last_before-kept.result c.self.invariant parted.low c.self.inside.read c.self.invariant.span (omega arith))

pub returns-then-kept-self-clause-read : goal.returns-then-kept-self-clause-read
returns-then-kept-self-clause-read g c =
    let parted : IsParted c.args.time c.self.inside.stops.items c.self.inside.dead (end_of c.self.inside.stops.items c.self.inside.words.items) c.last_before-kept.result = rw (c.as_slice.ensures.value, c.end_of-end.ensures) at c.last_before-kept.ensures in
    rw (c.truncate.ensures.items, c.truncate-2.ensures.items, ← c.self.view_is) ((line_cut_ahead c.args.time c.self.inside.stops.items c.self.inside.words.items c.self.inside.dead c.self.inside.read c.last_before-kept.result c.self.invariant parted (omega arith)).0)

pub returns-then-kept-self-clause-ahead : goal.returns-then-kept-self-clause-ahead
returns-then-kept-self-clause-ahead g c =
    let parted : IsParted c.args.time c.self.inside.stops.items c.self.inside.dead (end_of c.self.inside.stops.items c.self.inside.words.items) c.last_before-kept.result = rw (c.as_slice.ensures.value, c.end_of-end.ensures) at c.last_before-kept.ensures in
    rw (c.truncate.ensures.items, c.truncate-2.ensures.items, ← c.self.view_is) ((line_cut_ahead c.args.time c.self.inside.stops.items c.self.inside.words.items c.self.inside.dead c.self.inside.read c.last_before-kept.result c.self.invariant parted (omega arith)).1)

pub returns-else-kept-self-clause-read : goal.returns-else-kept-self-clause-read
returns-else-kept-self-clause-read g c =
    let parted : IsParted c.args.time c.self.inside.stops.items c.self.inside.dead (end_of c.self.inside.stops.items c.self.inside.words.items) c.last_before-kept.result = rw (c.as_slice.ensures.value, c.end_of-end.ensures) at c.last_before-kept.ensures in
    rw (c.truncate.ensures.items, c.truncate-2.ensures.items, ← c.self.view_is) ((line_cut_behind c.args.time c.self.inside.stops.items c.self.inside.words.items c.self.inside.dead c.self.inside.read c.last_before-kept.result c.self.invariant parted (omega arith)).0)

pub returns-else-kept-self-clause-ahead : goal.returns-else-kept-self-clause-ahead
returns-else-kept-self-clause-ahead g c =
    let parted : IsParted c.args.time c.self.inside.stops.items c.self.inside.dead (end_of c.self.inside.stops.items c.self.inside.words.items) c.last_before-kept.result = rw (c.as_slice.ensures.value, c.end_of-end.ensures) at c.last_before-kept.ensures in
    rw (c.truncate.ensures.items, c.truncate-2.ensures.items, ← c.self.view_is) ((line_cut_behind c.args.time c.self.inside.stops.items c.self.inside.words.items c.self.inside.dead c.self.inside.read c.last_before-kept.result c.self.invariant parted (omega arith)).1)
