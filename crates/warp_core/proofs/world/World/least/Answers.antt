use Rattle.std.proofs.Common.{ℕ, List, subst}
use Rattle.warp_core.specs.Shown.{scene_of}
use Rattle.warp_core.specs.Inner.Kept.{IsLeastOf}
use Rattle.warp_core.specs.World.{Scene, IsLeastTime}
use Rattle.warp_core.proofs.NextTimes.{least_is}
use Rattle.warp_core.proofs.world.World.least.Goals as goal

pub returns : goal.returns
returns c =
    let least = c.least_of.result in
    subst (λ (w : Scene). IsLeastTime w least) c.self.view_is
    (least_is (scene_of c.self.inside) c.self.inside.next.items c.self.inside.soonest least c.self.invariant.law c.self.invariant.next c.self.invariant.soonest
    (subst (λ (ts : List ℕ). IsLeastOf ts c.self.inside.soonest.time least) c.as_slice.ensures.value c.least_of.ensures))
