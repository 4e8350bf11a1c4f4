use Rattle.std.proofs.Common.{◌≡◌, ◌<◌, ◌+◌, length, take, ap, arith}
use Rattle.std.specs.Prelude.{Vec}
use Rattle.std.specs.declared.alloc.Global.{Global}
use Rattle.std.proofs.lemmas.List.{length-map}
use Rattle.gate_values.specs.declared.logic.Change.{Change}
use Rattle.warp_stores.specs.Words.{Move}
use Rattle.warp_stores.specs.Shown.StopBits.{Tally}
use Rattle.warp_stores.specs.Shown.Stops.{dated}
use Rattle.warp_stores.specs.Shown.Lists.{lists_of}
use Rattle.warp_stores.specs.Inner.Spans.{words_within}
use Rattle.warp_stores.proofs.Listing.{stop_fits, all_part, on_err_fact}
use Rattle.warp_stores.proofs.Spanning.{longer_stop_within, grown_of, grown_then}
use Rattle.warp_stores.proofs.spans.push_span.Goals as goal

pub overflow_add-end : goal.overflow_add-end
overflow_add-end c =
    let n = ap (λ (s : Tally). s.count) c.stop-item.is in
    omega (arith, stop_fits c.args.stops.now c.loop-stop.stop-index c.loop-stop.read c.stop-item.result c.loop-stop-test.true c.stop-item.is c.loop-stop.invariant.0, c.count.ensures, n, c.requires.fits)

pub part-requires-clause-within : goal.part-requires-clause-within
part-requires-clause-within c =
    let n = ap (λ (s : Tally). s.count) c.stop-item.is in
    omega (arith, stop_fits c.args.stops.now c.loop-stop.stop-index c.loop-stop.read c.stop-item.result c.loop-stop-test.true c.stop-item.is c.loop-stop.invariant.0, c.count.ensures, n, c.requires.whole)

pub push_within-requires : goal.push_within-requires
push_within-requires c =
    let items = λ (v : Vec Change Global). v.items in
    let same : length c.loop-stop.lists.items ≡ length c.args.lists.now.items = omega (arith, c.loop-stop.invariant.1.same, length-map c.loop-stop.lists.items items, length-map c.args.lists.now.items items) in
    rw (c.part.ensures, same) (all_part (λ (w : Move). w.place < length c.args.lists.now.items) c.args.words.now c.loop-stop.read (c.loop-stop.read + c.count.result) c.requires.within)

pub returns-in_err-push_within-clause-err : goal.returns-in_err-push_within-clause-err
returns-in_err-push_within-clause-err c =
    let so_far = words_within c.args.from c.args.to (dated (take c.loop-stop.stop-index c.args.stops.now) (take c.loop-stop.read c.args.words.now)) in
    on_err_fact c.from_residual.result (grown_then (lists_of c.args.lists.now.items) (lists_of c.loop-stop.lists.items) (lists_of c.push_within.new.lists.items) (grown_of so_far (lists_of c.args.lists.now.items) (lists_of c.loop-stop.lists.items) c.loop-stop.invariant.1) c.in_err-push_within.ensures.err)

pub loop-stop-preserved : goal.loop-stop-preserved
loop-stop-preserved c =
    let n' = ap (λ (s : Tally). s.count) c.stop-item.is in
    let t' = ap (λ (s : Tally). s.time) c.stop-item.is in
    let n : c.count.result ≡ c.stop-item.result.count = omega (arith, c.count.ensures, n') in
    let t : c.time.result ≡ c.stop-item.result.time = omega (arith, c.time.ensures.time, t') in
    rw n
    (longer_stop_within c.args.from c.args.to c.args.stops.now c.args.words.now c.part.result.now c.loop-stop.stop-index c.loop-stop.read c.stop-item.result (lists_of c.args.lists.now.items) (lists_of c.loop-stop.lists.items) (lists_of c.push_within.new.lists.items)
    c.loop-stop-test.true c.stop-item.is c.loop-stop.invariant.0 c.requires.whole (rw n at c.part.ensures) c.loop-stop.invariant.1 (rw t at c.in_ok-push_within.ensures.ok))
