use Rattle.std.proofs.Common.{◌+◌, sym, subst}
use Rattle.warp_core.specs.Shown.{scene_of}
use Rattle.warp_core.specs.World.{Scene, IsLeastTime}
use Rattle.warp_core.proofs.Finishing.{gathered_whole}
use Rattle.warp_core.proofs.world.World.finish.Goals as goal

pub returns-clause-complete : goal.returns-clause-complete
returns-clause-complete c = λ least.
    gathered_whole (scene_of c.self.inside) c.self.invariant.law c.law-2.ensures c.law-3.ensures c.gather.result c.gather.ensures
    (subst (λ (w : Scene). IsLeastTime w (w.horizon + 1)) (sym c.self.view_is) least)
