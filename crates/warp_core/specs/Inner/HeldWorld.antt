-- What is true of the fields of every world.
use Rattle.std.specs.Prelude.{◌+◌}
use Rattle.warp_core.specs.declared.world.World.TheInside.{Inside}
use Rattle.warp_core.specs.Shown.{scene_of}
use Rattle.warp_core.specs.World.{IsLawfulWorld}
use Rattle.warp_core.specs.Inner.Kept.{IsSoonest, AreNextTimes}

pub record IsHeldWorld (w : Inside) : Type 0 where
  pub law : IsLawfulWorld (scene_of w)
  pub soonest : IsSoonest w.flight.items (w.horizon + 1) w.soonest
  pub next : AreNextTimes w.blocks.items (w.horizon + 1) w.next.items
