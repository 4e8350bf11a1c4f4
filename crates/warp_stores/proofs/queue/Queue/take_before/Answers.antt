use Rattle.std.proofs.Common.{◌≡◌, ◌∙◌, ◌++◌, ap}
use Rattle.std.specs.List.{between}
use Rattle.warp_stores.specs.Inner.Stops.{IsParted}
use Rattle.warp_stores.specs.Shown.Stops.{end_of}
use Rattle.warp_stores.proofs.Telling.{length-span}
use Rattle.warp_stores.proofs.Queues.{climbs_ahead_of, ahead_part, line_read}
use Rattle.warp_stores.proofs.queue.Queue.take_before.Goals as goal

pub first_since-read-requires-clause-rising : goal.first_since-read-requires-clause-rising
first_since-read-requires-clause-rising g c = rw (c.as_slice.ensures.value, c.end_of-end.ensures) (climbs_ahead_of c.self.invariant)

pub part-requires-clause-order : goal.part-requires-clause-order
part-requires-clause-order g c =
    let parted : IsParted c.args.time c.self.inside.stops.items c.self.inside.read (end_of c.self.inside.stops.items c.self.inside.words.items) c.first_since-read.result = rw (c.as_slice.ensures.value, c.end_of-end.ensures) at c.first_since-read.ensures in
    (length-span c.self.inside.stops.items c.self.inside.words.items c.self.inside.read c.first_since-read.result parted.low c.self.invariant.whole).0

pub part-requires-clause-within : goal.part-requires-clause-within
part-requires-clause-within g c =
    let parted : IsParted c.args.time c.self.inside.stops.items c.self.inside.read (end_of c.self.inside.stops.items c.self.inside.words.items) c.first_since-read.result = rw (c.as_slice.ensures.value, c.end_of-end.ensures) at c.first_since-read.ensures in
    rw c.as_slice-2.ensures.value ((length-span c.self.inside.stops.items c.self.inside.words.items c.self.inside.read c.first_since-read.result parted.low c.self.invariant.whole).1)

pub returns-clause-read : goal.returns-clause-read
returns-clause-read g c =
    let parted : IsParted c.args.time c.self.inside.stops.items c.self.inside.read (end_of c.self.inside.stops.items c.self.inside.words.items) c.first_since-read.result = rw (c.as_slice.ensures.value, c.end_of-end.ensures) at c.first_since-read.ensures in
    rw (← c.self.view_is) ((line_read c.args.time c.self.inside.stops.items c.self.inside.words.items c.self.inside.dead c.self.inside.read c.first_since-read.result c.self.invariant parted).0)

pub returns-clause-ahead : goal.returns-clause-ahead
returns-clause-ahead g c =
    let parted : IsParted c.args.time c.self.inside.stops.items c.self.inside.read (end_of c.self.inside.stops.items c.self.inside.words.items) c.first_since-read.result = rw (c.as_slice.ensures.value, c.end_of-end.ensures) at c.first_since-read.ensures in
    rw (← c.self.view_is) ((line_read c.args.time c.self.inside.stops.items c.self.inside.words.items c.self.inside.dead c.self.inside.read c.first_since-read.result c.self.invariant parted).1)

pub returns-clause-out : goal.returns-clause-out
returns-clause-out g c =
    let parted : IsParted c.args.time c.self.inside.stops.items c.self.inside.read (end_of c.self.inside.stops.items c.self.inside.words.items) c.first_since-read.result = rw (c.as_slice.ensures.value, c.end_of-end.ensures) at c.first_since-read.ensures in
    let words : c.part.result.now ≡ between c.self.inside.read.words c.first_since-read.result.words c.self.inside.words.items = rw c.as_slice-2.ensures.value at c.part.ensures in
    rw (← c.self.view_is)
    (c.in_ok-push_some.ensures.ok ∙ ap (λ (ws : _). c.args.out.now.items ++ ws) (words ∙ ahead_part c.args.time c.self.inside.stops.items c.self.inside.words.items c.self.inside.dead c.self.inside.read c.first_since-read.result c.self.invariant parted))
