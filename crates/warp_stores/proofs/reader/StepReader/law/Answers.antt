use Rattle.std.proofs.Common.{List, subst}
use Rattle.warp_stores.specs.Dated.{Dated, Rises}
use Rattle.warp_stores.proofs.Readers.{Rises-reader}
use Rattle.warp_stores.proofs.reader.StepReader.law.Goals as goal

pub returns : goal.returns
returns g c = subst (λ (x : List (Dated g.row.T.Denot)). Rises x) c.self.view_is (Rises-reader c.self.inside.stops.now c.self.inside.words.now c.self.invariant)
