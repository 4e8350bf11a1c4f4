use Rattle.std.proofs.Common.{◌≡◌, length, refl, arith}
use Rattle.std.specs.Prelude.{Vec}
use Rattle.std.specs.declared.alloc.Global.{Global}
use Rattle.std.proofs.lemmas.List.{length-map}
use Rattle.gate_values.specs.declared.logic.Change.{Change}
use Rattle.warp_stores.specs.Shown.Lists.{lists_of}
use Rattle.warp_stores.proofs.Spanning.{cut_more}
use Rattle.warp_stores.proofs.spans.cut_all.Goals as goal

pub loop-place-preserved : goal.loop-place-preserved
loop-place-preserved c =
    let items = λ (v : Vec Change Global). v.items in
    let same : length c.loop-place.lists.items ≡ length c.args.lists.now.items = omega (arith, c.loop-place.invariant.same, length-map c.loop-place.lists.items items, length-map c.args.lists.now.items items) in
    cut_more c.loop-place.lists.items c.args.lens.now c.loop-place.place _ c.index_mut.result.now c.truncate.new.self (lists_of c.args.lists.now.items) (omega (arith, same, c.requires, c.loop-place-test.true)) c.index_mut.ensures.value refl c.truncate.ensures.items c.loop-place.invariant
