use Rattle.std.proofs.Common.{arith}
use Rattle.bit_compare.proofs.Moments.{value_after-last}
use Rattle.bit_compare.proofs.shown.value_in.Goals as goal

pub returns-else-count-eq0 : goal.returns-else-count-eq0
returns-else-count-eq0 c = value_after-last c.args.first c.args.changes.now c.args.count _ (omega arith) (omega arith)
