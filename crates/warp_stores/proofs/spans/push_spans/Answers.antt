use Rattle.std.proofs.Common.{◌≤◌, List, length, subst, arith}
use Rattle.std.specs.Prelude.{Vec}
use Rattle.std.specs.declared.alloc.Global.{Global}
use Rattle.std.proofs.lemmas.List.{length-map}
use Rattle.gate_values.specs.declared.logic.Change.{Change}
use Rattle.warp_stores.specs.Words.{Move}
use Rattle.warp_stores.specs.Dated.{Dated}
use Rattle.warp_stores.specs.Lists.{AreLonger}
use Rattle.warp_stores.specs.Shown.Stops.{dated}
use Rattle.warp_stores.specs.Shown.Lists.{lists_of}
use Rattle.warp_stores.specs.Inner.Spans.{words_within}
use Rattle.warp_stores.proofs.Listing.{longer_none, on_err_fact}
use Rattle.warp_stores.proofs.Spanning.{longer_spans, within_none, within_dated, grown_of, grown_then}
use Rattle.warp_stores.proofs.spans.push_spans.Goals as goal

pub loop-from-init : goal.loop-from-init
loop-from-init c = rw (within_none (dated c.args.stops.now c.args.words.now)) (longer_none (lists_of c.args.lists.now.items))

pub returns-in_err-push_span-clause-err : goal.returns-in_err-push_span-clause-err
returns-in_err-push_span-clause-err c =
    let so_far = words_within 0 c.loop-from.from (dated c.args.stops.now c.args.words.now) in
    on_err_fact c.from_residual.result (grown_then (lists_of c.args.lists.now.items) (lists_of c.loop-from.lists.items) (lists_of c.push_span.new.lists.items) (grown_of so_far (lists_of c.args.lists.now.items) (lists_of c.loop-from.lists.items) c.loop-from.invariant) c.in_err-push_span.ensures.err)

pub loop-from-preserved : goal.loop-from-preserved
loop-from-preserved c =
    longer_spans c.loop-from.from c.saturating_add-to.result (dated c.args.stops.now c.args.words.now) (lists_of c.args.lists.now.items) (lists_of c.loop-from.lists.items) (lists_of c.push_span.new.lists.items)
    (omega (arith, c.saturating_add-to.ensures, c.loop-from-test.true, c.len-in-loop-from.type_inv)) c.loop-from.invariant c.in_ok-push_span.ensures.ok

pub returns-clause-ok : goal.returns-clause-ok
returns-clause-ok c =
    let items = λ (v : Vec Change Global). v.items in
    let past : length c.args.lists.now.items ≤ c.loop-from.from = omega (arith, c.loop-from.invariant.same, length-map c.loop-from.lists.items items, length-map c.args.lists.now.items items, c.len-in-loop-from.ensures, c.loop-from-test.false, c.loop-from.lists.ok.0) in
    subst (λ (ds : List (Dated Move)). AreLonger ds (lists_of c.args.lists.now.items) (lists_of c.loop-from.lists.items))
    (within_dated (length c.args.lists.now.items) c.loop-from.from c.args.stops.now c.args.words.now past c.requires.within) c.loop-from.invariant
