use Rattle.std.proofs.Common.{arith}
use Rattle.bit_compare.proofs.Steps.{step-after}
use Rattle.bit_compare.proofs.times.Times.step_from.Goals as goal

pub returns-else-past-eq0 : goal.returns-else-past-eq0
returns-else-past-eq0 c = step-after c.args.self.now c.args.low c.requires.small.moves (omega arith) (omega arith)
