use Rattle.std.proofs.Common.{◌≡◌, ◌<◌, length, take, ap, arith}
use Rattle.std.specs.Prelude.{Vec}
use Rattle.std.specs.declared.alloc.Global.{Global}
use Rattle.std.proofs.lemmas.List.{length-map}
use Rattle.std.proofs.lemmas.List.Elements.{All-get_or}
use Rattle.gate_values.specs.declared.logic.Change.{Change}
use Rattle.warp_stores.specs.Words.{Move}
use Rattle.warp_stores.specs.Dated.{at}
use Rattle.warp_stores.specs.Shown.Lists.{lists_of}
use Rattle.warp_stores.specs.Inner.Spans.{words_within}
use Rattle.warp_stores.proofs.Listing.{on_err_fact}
use Rattle.warp_stores.proofs.Spanning.{grown_of, within_more}
use Rattle.warp_stores.proofs.spans.push_within.Goals as goal

pub returns-in_err-push_if-clause-err : goal.returns-in_err-push_if-clause-err
returns-in_err-push_if-clause-err c =
    on_err_fact c.from_residual.result (rw c.in_err-push_if.ensures.err (grown_of (words_within c.args.from c.args.to (at c.args.time (take c.loop-word.word-index c.args.words.now))) (lists_of c.args.lists.now.items) (lists_of c.loop-word.lists.items) c.loop-word.invariant))

pub push_if-requires : goal.push_if-requires
push_if-requires c =
    let items = λ (v : Vec Change Global). v.items in
    let same : length c.loop-word.lists.items ≡ length c.args.lists.now.items = omega (arith, c.loop-word.invariant.same, length-map c.loop-word.lists.items items, length-map c.args.lists.now.items items) in
    let here = ap (λ (w : Move). w.place) c.word-item.is in
    omega (arith, same, here, All-get_or (λ (w : Move). w.place < length c.args.lists.now.items) c.args.words.now c.loop-word.word-index c.word-item.result c.loop-word-test.true c.requires)

pub loop-word-preserved : goal.loop-word-preserved
loop-word-preserved c =
    within_more c.args.from c.args.to c.args.time c.args.words.now c.loop-word.word-index c.word-item.result (lists_of c.args.lists.now.items) (lists_of c.loop-word.lists.items) (lists_of c.push_if.new.lists.items)
    c.loop-word-test.true c.word-item.is c.loop-word.invariant c.in_ok-push_if.ensures.ok
