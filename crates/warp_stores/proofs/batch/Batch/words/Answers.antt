use Rattle.std.proofs.Common.{ap, sym, ◌∙◌}
use Rattle.warp_stores.specs.Dated.{undated}
use Rattle.warp_stores.proofs.Telling.{undated-dated}
use Rattle.warp_stores.proofs.batch.Batch.words.Goals as goal

pub returns : goal.returns
returns g c = c.as_slice.ensures.value ∙ sym (undated-dated c.self.inside.stops.items c.self.inside.words.items c.self.invariant) ∙ ap undated c.self.view_is
