use Rattle.std.proofs.Common.{◌≤◌, length, arith}
use Rattle.warp_stores.proofs.Seeking.{words_fit, sought_more, parted_at}
use Rattle.warp_stores.proofs.place.first_since.Goals as goal

-- the stop at the place isn't before the time
pub returns-then-time : goal.returns-then-time
returns-then-time c = parted_at c.args.time c.args.stops.now c.args.from c.args.to c.loop-place.place c.index-stops-place.result c.loop-place.invariant c.requires.rising c.loop-place-test.true c.index-stops-place.is (omega (arith, c.time.ensures.time))

pub behind-place-requires-clause-words : goal.behind-place-requires-clause-words
behind-place-requires-clause-words c =
    let within : c.args.to.stops ≤ length c.args.stops.now = c.requires.span.end.within in
    omega (arith, words_fit c.args.stops.now c.loop-place.place c.index-stops-place.result (c.loop-place.invariant.0).end (omega arith) c.index-stops-place.is)

pub loop-place-preserved : goal.loop-place-preserved
loop-place-preserved c = rw c.behind-place.ensures (sought_more c.args.time c.args.stops.now c.args.from c.args.to c.loop-place.place c.index-stops-place.result c.loop-place.invariant c.loop-place-test.true c.index-stops-place.is (omega (arith, c.time.ensures.time)))
