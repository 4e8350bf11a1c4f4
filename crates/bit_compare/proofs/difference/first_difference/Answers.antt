use Rattle.bit_compare.proofs.Alike.{same-finding}
use Rattle.bit_compare.proofs.difference.first_difference.Goals as goal

pub returns-then-are_same : goal.returns-then-are_same
returns-then-are_same c = same-finding c.args.how.now c.args.times.now c.args.expected.now c.args.actual.now (c.are_same.ensures c.if-are_same.true)
