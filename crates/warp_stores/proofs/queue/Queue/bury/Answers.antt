use Rattle.std.proofs.Common.{sym}
use Rattle.warp_stores.specs.Inner.Stops.{IsParted}
use Rattle.warp_stores.proofs.Telling.{since-told}
use Rattle.warp_stores.proofs.Queues.{climbs_read, queue_forgot}
use Rattle.warp_stores.proofs.queue.Queue.bury.Goals as goal

pub first_since-dead-requires-clause-rising : goal.first_since-dead-requires-clause-rising
first_since-dead-requires-clause-rising g c = rw (c.as_slice.ensures.value) (climbs_read c.self.invariant)

pub invariant_of-self : goal.invariant_of-self
invariant_of-self g c =
    let parted : IsParted c.args.time c.self.inside.stops.items c.self.inside.dead c.self.inside.read c.first_since-dead.result = rw c.as_slice.ensures.value at c.first_since-dead.ensures in
    queue_forgot c.self.invariant parted

pub returns-clause-read : goal.returns-clause-read
returns-clause-read g c =
    let parted : IsParted c.args.time c.self.inside.stops.items c.self.inside.dead c.self.inside.read c.first_since-dead.result = rw c.as_slice.ensures.value at c.first_since-dead.ensures in
    rw (← c.self.view_is) (sym (since-told c.args.time c.self.inside.stops.items c.self.inside.words.items c.self.inside.dead c.self.inside.read c.first_since-dead.result parted c.self.invariant.whole))
