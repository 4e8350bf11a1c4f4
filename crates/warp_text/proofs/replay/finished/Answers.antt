use Rattle.std.proofs.Common.{◌≡◌, ◌+◌, ℕ, subst, arith}
use Rattle.warp_core.specs.World.{IsLeastTime}
use Rattle.warp_text.proofs.Replaying.{nothing_played}
use Rattle.warp_text.proofs.replay.finished.Goals as goal

pub returns-then-time-until-clause-stopped : goal.returns-then-time-until-clause-stopped
returns-then-time-until-clause-stopped c = record {
  world = c.args.world;
  played = nothing_played c.args.world;
  least = c.least-time.ensures;
  within = omega (arith, c.if-time-until.true, c.requires);
}

pub returns-in-Ok-clause-least : goal.returns-in-Ok-clause-least
returns-in-Ok-clause-least c =
    let past : c.least-time.result ≡ c.args.until + 1 = omega (arith, c.least-time.ensures.before.end, c.if-time-until.false, c.requires) in
    subst (λ (t : ℕ). IsLeastTime c.args.world t) past c.least-time.ensures
