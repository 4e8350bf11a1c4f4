use Rattle.warp_stores.specs.Inner.Stops.{IsParted}
use Rattle.warp_stores.proofs.Queues.{climbs_read, line_back}
use Rattle.warp_stores.proofs.queue.Queue.put_back.Goals as goal

pub last_before-read-requires-clause-rising : goal.last_before-read-requires-clause-rising
last_before-read-requires-clause-rising g c = rw (c.as_slice.ensures.value) (climbs_read c.self.invariant)

pub returns-clause-read : goal.returns-clause-read
returns-clause-read g c =
    let parted : IsParted c.args.time c.self.inside.stops.items c.self.inside.dead c.self.inside.read c.last_before-read.result = rw c.as_slice.ensures.value at c.last_before-read.ensures in
    rw (← c.self.view_is) ((line_back c.args.time c.self.inside.stops.items c.self.inside.words.items c.self.inside.dead c.self.inside.read c.last_before-read.result c.self.invariant parted).0)

pub returns-clause-ahead : goal.returns-clause-ahead
returns-clause-ahead g c =
    let parted : IsParted c.args.time c.self.inside.stops.items c.self.inside.dead c.self.inside.read c.last_before-read.result = rw c.as_slice.ensures.value at c.last_before-read.ensures in
    rw (← c.self.view_is) ((line_back c.args.time c.self.inside.stops.items c.self.inside.words.items c.self.inside.dead c.self.inside.read c.last_before-read.result c.self.invariant parted).1)
