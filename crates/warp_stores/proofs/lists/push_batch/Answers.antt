use Rattle.std.proofs.Common.{◌≡◌, ◌≤◌, ◌<◌, ◌+◌, length, ap, arith}
use Rattle.std.specs.Prelude.{Vec}
use Rattle.std.specs.declared.alloc.Global.{Global}
use Rattle.std.proofs.lemmas.List.{length-map}
use Rattle.gate_values.specs.declared.logic.Change.{Change}
use Rattle.warp_stores.specs.Words.{Move}
use Rattle.warp_stores.specs.Shown.StopBits.{Tally}
use Rattle.warp_stores.specs.Shown.Lists.{lists_of}
use Rattle.warp_stores.proofs.Listing.{stop_fits, all_part, err_within, put_more, longer_stop}
use Rattle.warp_stores.proofs.lists.push_batch.Goals as goal

pub overflow_add-end : goal.overflow_add-end
overflow_add-end c =
    let n = ap (λ (s : Tally). s.count) c.stop-item.is in
    omega (arith, stop_fits c.args.stops.now c.loop-stop.stop-index c.loop-stop.pushed c.stop-item.result c.loop-stop-test.true c.stop-item.is c.loop-stop.invariant.0, c.count.ensures, n, c.requires.fits)

pub part-requires-clause-within : goal.part-requires-clause-within
part-requires-clause-within c =
    let n = ap (λ (s : Tally). s.count) c.stop-item.is in
    omega (arith, stop_fits c.args.stops.now c.loop-stop.stop-index c.loop-stop.pushed c.stop-item.result c.loop-stop-test.true c.stop-item.is c.loop-stop.invariant.0, c.count.ensures, n, c.requires.whole)

pub push_all-requires : goal.push_all-requires
push_all-requires c =
    let items = λ (v : Vec Change Global). v.items in
    let same : length c.loop-stop.lists.items ≡ length c.args.lists.now.items = omega (arith, c.loop-stop.invariant.1.same, length-map c.loop-stop.lists.items items, length-map c.args.lists.now.items items) in
    rw (c.part.ensures, same) (all_part (λ (w : Move). w.place < length c.args.lists.now.items) c.args.words.now c.loop-stop.pushed (c.loop-stop.pushed + c.count.result) c.requires.within)

pub returns-in-Err-clause-within : goal.returns-in-Err-clause-within
returns-in-Err-clause-within c =
    let n = ap (λ (s : Tally). s.count) c.stop-item.is in
    let fits : c.loop-stop.pushed + c.count.result ≤ length c.args.words.now =
    omega (arith, stop_fits c.args.stops.now c.loop-stop.stop-index c.loop-stop.pushed c.stop-item.result c.loop-stop-test.true c.stop-item.is c.loop-stop.invariant.0, c.count.ensures, n, c.requires.whole) in
    err_within c.args.words.now c.part.result.now c.loop-stop.pushed c.count.result c.in-Err.more fits c.part.ensures c.in-Err.ensures.within

pub returns-in-Err-clause-err : goal.returns-in-Err-clause-err
returns-in-Err-clause-err c =
    let n = ap (λ (s : Tally). s.count) c.stop-item.is in
    let fits : c.loop-stop.pushed + c.count.result ≤ length c.args.words.now =
    omega (arith, stop_fits c.args.stops.now c.loop-stop.stop-index c.loop-stop.pushed c.stop-item.result c.loop-stop-test.true c.stop-item.is c.loop-stop.invariant.0, c.count.ensures, n, c.requires.whole) in
    put_more _ c.args.words.now c.time.result c.loop-stop.pushed c.count.result c.in-Err.more c.part.result.now (lists_of c.args.lists.now.items) (lists_of c.loop-stop.lists.items) (lists_of c.push_all.new.lists.items)
    c.loop-stop.invariant.0 fits c.part.ensures c.in-Err.ensures.within c.loop-stop.invariant.1 c.in-Err.ensures.err

pub loop-stop-preserved : goal.loop-stop-preserved
loop-stop-preserved c =
    let n' = ap (λ (s : Tally). s.count) c.stop-item.is in
    let t' = ap (λ (s : Tally). s.time) c.stop-item.is in
    let n : c.count.result ≡ c.stop-item.result.count = omega (arith, c.count.ensures, n') in
    let t : c.time.result ≡ c.stop-item.result.time = omega (arith, c.time.ensures.time, t') in
    rw n
    (longer_stop c.args.stops.now c.args.words.now c.part.result.now c.loop-stop.stop-index c.loop-stop.pushed c.stop-item.result (lists_of c.args.lists.now.items) (lists_of c.loop-stop.lists.items) (lists_of c.push_all.new.lists.items)
    c.loop-stop-test.true c.stop-item.is c.loop-stop.invariant.0 c.requires.whole (rw n at c.part.ensures) c.loop-stop.invariant.1 (rw t at c.in-Ok.ensures.ok))
