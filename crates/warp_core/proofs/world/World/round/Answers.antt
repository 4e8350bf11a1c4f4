use Rattle.warp_core.proofs.Played.{never_falls}
use Rattle.warp_core.proofs.world.World.round.Goals as goal

pub returns-then-not-is_order-clause-never_falls : goal.returns-then-not-is_order-clause-never_falls
returns-then-not-is_order-clause-never_falls c = never_falls c.args.self.now c.args.self.now (λ s h. h)
