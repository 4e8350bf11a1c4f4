use Rattle.std.proofs.Common.{◌≡◌, arith, ap}
use Rattle.warp_stores.specs.Shown.StopBits.{Tally}
use Rattle.warp_stores.proofs.Listing.{stop_fits}
use Rattle.warp_stores.proofs.Batches.{listed_on}
use Rattle.warp_stores.proofs.batch.list_stops.Goals as goal

pub overflow_add-end : goal.overflow_add-end
overflow_add-end g c =
    let n = ap (λ (s : Tally). s.count) c.stop-item.is in
    omega (arith, stop_fits c.args.stops.now c.loop-stop.stop-index c.loop-stop.listed c.stop-item.result c.loop-stop-test.true c.stop-item.is c.loop-stop.invariant.0, c.count.ensures, n, c.requires.whole)

pub part-requires-clause-within : goal.part-requires-clause-within
part-requires-clause-within g c =
    let n = ap (λ (s : Tally). s.count) c.stop-item.is in
    omega (arith, stop_fits c.args.stops.now c.loop-stop.stop-index c.loop-stop.listed c.stop-item.result c.loop-stop-test.true c.stop-item.is c.loop-stop.invariant.0, c.count.ensures, n, c.requires.whole)

pub loop-stop-preserved : goal.loop-stop-preserved
loop-stop-preserved g c =
    let n : c.count.result ≡ c.stop-item.result.count = c.count.ensures in
    let t : c.time.result ≡ c.stop-item.result.time = c.time.ensures.time in
    rw n
    (listed_on c.args.stops.now c.args.words.now c.part.result.now c.loop-stop.list.items c.list_at.new.list.items c.loop-stop.stop-index c.loop-stop.listed c.stop-item.result
    c.loop-stop-test.true c.stop-item.is c.requires.whole c.loop-stop.invariant.0 (rw n at c.part.ensures) c.loop-stop.invariant.1 (rw t at c.in_ok-list_at.ensures.ok))
