use Rattle.std.proofs.Common.{◌≡◌, ◌∙◌, List, map, ap, sym, subst}
use Rattle.std.specs.Prelude.{IfOk}
use Rattle.gate_values.specs.declared.logic.Logic.{Logic}
use Rattle.gate_values.specs.Behaviour.{initial_of}
use Rattle.warp_part.specs.Portion.{Portion}
use Rattle.warp_part.specs.Inner.Wired.{begun}
use Rattle.warp_part.proofs.Wired.{cells_begun}
use Rattle.warp_part.proofs.part.Part.contents.Goals as goal

pub returns : goal.returns
returns c =
    let all : map begun c.as_slice.result.now ≡ map initial_of c.args.self.now.sources =
    ap (map begun) c.as_slice.ensures.value ∙ sym (cells_begun c.self.inside.nets.items c.self.inside.pins.items c.self.inside.cells.items) ∙ ap (λ (p : Portion). map initial_of p.sources) c.self.view_is in
    subst (λ (cs : List Logic). IfOk c.contents_of.result (λ contents. contents.items ≡ cs)) all c.contents_of.ensures
