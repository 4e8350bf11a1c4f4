use Rattle.std.proofs.Common.{arith}
use Rattle.warp_stores.proofs.Stops.{IsPlace-less}
use Rattle.warp_stores.proofs.Seeking.{sought_back_more, parted_behind}
use Rattle.warp_stores.proofs.place.last_before.Goals as goal

-- the stop ahead of the place is before the time
pub returns-then-time : goal.returns-then-time
returns-then-time c = parted_behind c.args.time c.args.stops.now c.args.from c.args.to c.loop-place.place c.index-stops-place.result c.loop-place.invariant c.requires.rising c.loop-place-test.true c.index-stops-place.is (omega (arith, c.time.ensures.time))

pub ahead_of-place-requires-clause-words : goal.ahead_of-place-requires-clause-words
ahead_of-place-requires-clause-words c = (IsPlace-less c.args.stops.now c.loop-place.place c.index-stops-place.result (c.loop-place.invariant.0).end (omega arith) c.index-stops-place.is).0

pub loop-place-preserved : goal.loop-place-preserved
loop-place-preserved c = rw c.ahead_of-place.ensures (sought_back_more c.args.time c.args.stops.now c.args.from c.args.to c.loop-place.place c.index-stops-place.result c.loop-place.invariant c.loop-place-test.true c.index-stops-place.is (omega (arith, c.time.ensures.time)))
