use Rattle.std.proofs.Common.{◌≡◌, ◌<◌, length, ap, arith}
use Rattle.std.specs.Prelude.{Vec}
use Rattle.std.specs.declared.alloc.Global.{Global}
use Rattle.std.proofs.lemmas.List.{length-map}
use Rattle.std.proofs.lemmas.List.Elements.{All-get_or}
use Rattle.gate_values.specs.declared.logic.Change.{Change}
use Rattle.warp_stores.specs.Words.{Move}
use Rattle.warp_stores.specs.Shown.Lists.{lists_of}
use Rattle.warp_stores.proofs.Listing.{longer_none, longer_more}
use Rattle.warp_stores.proofs.lists.push_all.Goals as goal

pub loop-pushed-init : goal.loop-pushed-init
loop-pushed-init c = longer_none (lists_of c.args.lists.now.items)

pub widen_full-requires : goal.widen_full-requires
widen_full-requires c =
    let items = λ (v : Vec Change Global). v.items in
    let same : length c.loop-pushed.lists.items ≡ length c.args.lists.now.items = omega (arith, c.loop-pushed.invariant.same, length-map c.loop-pushed.lists.items items, length-map c.args.lists.now.items items) in
    let at = ap (λ (w : Move). w.place) c.index-words-pushed.is in
    omega (arith, same, at, c.place.ensures.place, All-get_or (λ (w : Move). w.place < length c.args.lists.now.items) c.args.words.now c.loop-pushed.pushed c.index-words-pushed.result c.loop-pushed-test.true c.requires)

pub push_one-requires : goal.push_one-requires
push_one-requires c =
    let items = λ (v : Vec Change Global). v.items in
    let wide = ap length c.widen_full.ensures in
    let same : length c.widen_full.new.lists.items ≡ length c.args.lists.now.items = omega (arith, wide, c.loop-pushed.invariant.same, length-map c.widen_full.new.lists.items items, length-map c.loop-pushed.lists.items items, length-map c.args.lists.now.items items) in
    let at = ap (λ (w : Move). w.place) c.index-words-pushed.is in
    omega (arith, same, at, All-get_or (λ (w : Move). w.place < length c.args.lists.now.items) c.args.words.now c.loop-pushed.pushed c.index-words-pushed.result c.loop-pushed-test.true c.requires)

pub loop-pushed-preserved : goal.loop-pushed-preserved
loop-pushed-preserved c =
    longer_more c.args.time c.args.words.now c.loop-pushed.pushed c.index-words-pushed.result (lists_of c.args.lists.now.items) (lists_of c.loop-pushed.lists.items) (lists_of c.push_one.new.lists.items)
    c.loop-pushed-test.true c.index-words-pushed.is c.loop-pushed.invariant (rw c.widen_full.ensures at c.in-Ok.ensures.ok)
