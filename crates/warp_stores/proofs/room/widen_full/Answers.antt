use Rattle.std.proofs.Common.{◌∙◌, ap}
use Rattle.std.specs.Prelude.{Vec}
use Rattle.std.specs.declared.alloc.Global.{Global}
use Rattle.std.proofs.Math.Seq.{map-set_same}
use Rattle.gate_values.specs.declared.logic.Change.{Change}
use Rattle.warp_stores.proofs.room.widen_full.Goals as goal

pub returns : goal.returns
returns c =
    let items = λ (v : Vec Change Global). v.items in
    map-set_same items c.args.lists.now.items c.args.place c.widen.new.list c.index_mut.result.now (c.widen.ensures ∙ ap items c.index_mut.ensures.value)
