use Rattle.std.proofs.Common.{subst}
use Rattle.warp_process.specs.Lawful.{IsLawfulProcess}
use Rattle.warp_block.proofs.Resting.{rest_process}
use Rattle.warp_block.proofs.kernel.Kernel.law.Goals as goal

pub returns : goal.returns
returns c = subst IsLawfulProcess c.self.view_is (rest_process c.self.inside.heard c.self.inside.engine c.self.inside.times c.self.invariant.at)
