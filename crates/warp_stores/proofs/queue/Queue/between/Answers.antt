use Rattle.warp_stores.specs.Inner.Stops.{IsParted, IsSpan, IsEnd}
use Rattle.warp_stores.specs.Shown.Stops.{end_of}
use Rattle.warp_stores.proofs.Telling.{length-span}
use Rattle.warp_stores.proofs.Queues.{climbs_ahead_of, queue_read}
use Rattle.warp_stores.proofs.Readers.{IsReader-between, end_span, told_between}
use Rattle.warp_stores.proofs.queue.Queue.between.Goals as goal

pub first_since-from-requires-clause-rising : goal.first_since-from-requires-clause-rising
first_since-from-requires-clause-rising g c = rw (c.as_slice-stops.ensures.value, c.end_of-last.ensures) (climbs_ahead_of c.self.invariant)

pub first_behind-to-requires-clause-rising : goal.first_behind-to-requires-clause-rising
first_behind-to-requires-clause-rising g c =
    let parted : IsParted _ c.self.inside.stops.items c.self.inside.read (end_of c.self.inside.stops.items c.self.inside.words.items) c.first_since-from.result = rw (c.as_slice-stops.ensures.value, c.end_of-last.ensures) at c.first_since-from.ensures in
    rw (c.as_slice-stops.ensures.value, c.end_of-last.ensures) (climbs_ahead_of (queue_read c.self.invariant parted))

pub part-requires-2-clause-order : goal.part-requires-2-clause-order
part-requires-2-clause-order g c =
    let parted : IsParted _ c.self.inside.stops.items c.self.inside.read (end_of c.self.inside.stops.items c.self.inside.words.items) c.first_since-from.result = rw (c.as_slice-stops.ensures.value, c.end_of-last.ensures) at c.first_since-from.ensures in
    let ended : IsEnd c.args.end c.self.inside.stops.items c.first_since-from.result (end_of c.self.inside.stops.items c.self.inside.words.items) c.first_behind-to.result = rw (c.as_slice-stops.ensures.value, c.end_of-last.ensures) at c.first_behind-to.ensures in
    let span : IsSpan c.self.inside.stops.items c.first_since-from.result c.first_behind-to.result = end_span c.args.end c.self.inside.stops.items c.self.inside.words.items c.self.inside.dead c.first_since-from.result c.first_behind-to.result (queue_read c.self.invariant parted) ended in
    (length-span c.self.inside.stops.items c.self.inside.words.items c.first_since-from.result c.first_behind-to.result span c.self.invariant.whole).0

pub part-requires-2-clause-within : goal.part-requires-2-clause-within
part-requires-2-clause-within g c =
    let parted : IsParted _ c.self.inside.stops.items c.self.inside.read (end_of c.self.inside.stops.items c.self.inside.words.items) c.first_since-from.result = rw (c.as_slice-stops.ensures.value, c.end_of-last.ensures) at c.first_since-from.ensures in
    let ended : IsEnd c.args.end c.self.inside.stops.items c.first_since-from.result (end_of c.self.inside.stops.items c.self.inside.words.items) c.first_behind-to.result = rw (c.as_slice-stops.ensures.value, c.end_of-last.ensures) at c.first_behind-to.ensures in
    let span : IsSpan c.self.inside.stops.items c.first_since-from.result c.first_behind-to.result = end_span c.args.end c.self.inside.stops.items c.self.inside.words.items c.self.inside.dead c.first_since-from.result c.first_behind-to.result (queue_read c.self.invariant parted) ended in
    rw c.as_slice-words.ensures.value ((length-span c.self.inside.stops.items c.self.inside.words.items c.first_since-from.result c.first_behind-to.result span c.self.invariant.whole).1)

pub invariant_of-result : goal.invariant_of-result
invariant_of-result g c =
    let parted : IsParted _ c.self.inside.stops.items c.self.inside.read (end_of c.self.inside.stops.items c.self.inside.words.items) c.first_since-from.result = rw (c.as_slice-stops.ensures.value, c.end_of-last.ensures) at c.first_since-from.ensures in
    let ended : IsEnd c.args.end c.self.inside.stops.items c.first_since-from.result (end_of c.self.inside.stops.items c.self.inside.words.items) c.first_behind-to.result = rw (c.as_slice-stops.ensures.value, c.end_of-last.ensures) at c.first_behind-to.ensures in
    let span : IsSpan c.self.inside.stops.items c.first_since-from.result c.first_behind-to.result = end_span c.args.end c.self.inside.stops.items c.self.inside.words.items c.self.inside.dead c.first_since-from.result c.first_behind-to.result (queue_read c.self.invariant parted) ended in
    rw (c.part.ensures, c.part-2.ensures, c.as_slice-stops.ensures.value, c.as_slice-words.ensures.value) (IsReader-between (queue_read c.self.invariant parted) span)

pub returns : goal.returns
returns g c =
    let parted : IsParted c.args.from c.self.inside.stops.items c.self.inside.read (end_of c.self.inside.stops.items c.self.inside.words.items) c.first_since-from.result = rw (c.as_slice-stops.ensures.value, c.end_of-last.ensures) at c.first_since-from.ensures in
    let ended : IsEnd c.args.end c.self.inside.stops.items c.first_since-from.result (end_of c.self.inside.stops.items c.self.inside.words.items) c.first_behind-to.result = rw (c.as_slice-stops.ensures.value, c.end_of-last.ensures) at c.first_behind-to.ensures in
    rw (c.part.ensures, c.part-2.ensures, c.as_slice-stops.ensures.value, c.as_slice-words.ensures.value, ← c.self.view_is)
    (told_between c.args.from c.args.end c.self.inside.stops.items c.self.inside.words.items c.self.inside.dead c.self.inside.read c.first_since-from.result c.first_behind-to.result c.self.invariant parted ended)
