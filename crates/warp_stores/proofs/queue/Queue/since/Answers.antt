use Rattle.std.proofs.Common.{◌≡◌, ◌∙◌, length}
use Rattle.std.specs.List.{between}
use Rattle.warp_stores.specs.Inner.Stops.{IsParted}
use Rattle.warp_stores.specs.Shown.Stops.{end_of}
use Rattle.warp_stores.proofs.Telling.{length-span}
use Rattle.warp_stores.proofs.Queues.{since_part}
use Rattle.warp_stores.proofs.queue.Queue.since.Goals as goal

pub returns : goal.returns
returns g c =
    let parted : IsParted c.args.time c.self.inside.stops.items c.self.inside.dead (end_of c.self.inside.stops.items c.self.inside.words.items) c.last_before-from.result = rw (c.as_slice.ensures.value, c.end_of-end.ensures) at c.last_before-from.ensures in
    let words : c.part.result.now ≡ between c.last_before-from.result.words (length c.self.inside.words.items) c.self.inside.words.items = rw (c.as_slice-2.ensures.value, c.end_of-end.ensures) at c.part.ensures in
    rw (← c.self.view_is) (words ∙ since_part c.args.time c.self.inside.stops.items c.self.inside.words.items c.self.inside.dead c.self.inside.read c.last_before-from.result c.self.invariant parted)

pub part-requires-clause-order : goal.part-requires-clause-order
part-requires-clause-order g c =
    let parted : IsParted c.args.time c.self.inside.stops.items c.self.inside.dead (end_of c.self.inside.stops.items c.self.inside.words.items) c.last_before-from.result = rw (c.as_slice.ensures.value, c.end_of-end.ensures) at c.last_before-from.ensures in
    rw c.end_of-end.ensures ((length-span c.self.inside.stops.items c.self.inside.words.items c.last_before-from.result (end_of c.self.inside.stops.items c.self.inside.words.items) parted.high c.self.invariant.whole).0)
