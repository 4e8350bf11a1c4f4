use Rattle.warp_core.proofs.Played.{never_falls}
use Rattle.warp_core.proofs.world.World.play.Goals as goal

pub returns-in-Deliver-clause-never_falls : goal.returns-in-Deliver-clause-never_falls
returns-in-Deliver-clause-never_falls c = never_falls c.args.self.now c.deliver.new.self c.deliver.ensures.never_earlier

pub returns-in-Advance-clause-never_falls : goal.returns-in-Advance-clause-never_falls
returns-in-Advance-clause-never_falls c = never_falls c.args.self.now c.advance.new.self c.advance.ensures.never_earlier

pub returns-in-Commit-clause-never_falls : goal.returns-in-Commit-clause-never_falls
returns-in-Commit-clause-never_falls c = never_falls c.args.self.now c.commit.new.self c.commit.ensures.never_earlier
