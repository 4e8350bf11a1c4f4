use Rattle.std.proofs.Common.{◌∙◌, ap}
use Rattle.std.specs.Prelude.{Vec}
use Rattle.std.specs.declared.alloc.Global.{Global}
use Rattle.std.proofs.Math.Seq.{map-set_same}
use Rattle.gate_values.specs.declared.logic.Change.{Change}
use Rattle.warp_stores.proofs.room.widen_all.Goals as goal

pub loop-place-preserved : goal.loop-place-preserved
loop-place-preserved c =
    let items = λ (v : Vec Change Global). v.items in
    map-set_same items c.loop-place.lists.items c.loop-place.place c.widen.new.list c.index_mut.result.now (c.widen.ensures ∙ ap items c.index_mut.ensures.value) ∙ c.loop-place.invariant
