use Rattle.std.proofs.Common.{◌≡◌, ◌<◌, List, length, ap, subst, arith}
use Rattle.std.specs.Prelude.{Vec}
use Rattle.std.specs.declared.alloc.Global.{Global}
use Rattle.std.proofs.lemmas.List.{length-map, take_all}
use Rattle.std.proofs.lemmas.List.Elements.{All-get_or}
use Rattle.gate_values.specs.declared.logic.Change.{Change}
use Rattle.warp_stores.specs.Words.{Move}
use Rattle.warp_stores.specs.Lists.{AreShorter}
use Rattle.warp_stores.specs.Shown.Lists.{lists_of}
use Rattle.warp_stores.proofs.Listing.{shorter_none, shorter_more}
use Rattle.warp_stores.proofs.lists.pop_all.Goals as goal

pub loop-word-init : goal.loop-word-init
loop-word-init c = shorter_none (lists_of c.args.lists.now.items)

pub pop_one-requires : goal.pop_one-requires
pop_one-requires c =
    let items = λ (v : Vec Change Global). v.items in
    let same : length c.loop-word.lists.items ≡ length c.args.lists.now.items = omega (arith, c.loop-word.invariant.same, length-map c.loop-word.lists.items items, length-map c.args.lists.now.items items) in
    let at = ap (λ (w : Move). w.place) c.word-item.is in
    omega (arith, same, at, All-get_or (λ (w : Move). w.place < length c.args.lists.now.items) c.args.words.now c.loop-word.word-index c.word-item.result c.loop-word-test.true c.requires)

pub loop-word-preserved : goal.loop-word-preserved
loop-word-preserved c =
    shorter_more c.args.words.now c.loop-word.word-index c.word-item.result (lists_of c.args.lists.now.items) (lists_of c.loop-word.lists.items) (lists_of c.pop_one.new.lists.items)
    c.loop-word-test.true c.word-item.is c.loop-word.invariant c.pop_one.ensures

pub returns : goal.returns
returns c = subst (λ (ws : List Move). AreShorter ws (lists_of c.args.lists.now.items) (lists_of c.loop-word.lists.items)) (take_all c.loop-word.word-index c.args.words.now c.loop-word-test.false) c.loop-word.invariant
