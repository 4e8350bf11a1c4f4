use Rattle.std.proofs.Common.{arith}
use Rattle.warp_core.proofs.Finding.{none_other, first_other}
use Rattle.warp_core.proofs.gathering.findings.other_part.Goals as goal

pub returns-then-found-number : goal.returns-then-found-number
returns-then-found-number c d g horizon blocks are =
    first_other d c.args.cut.now g horizon blocks c.args.found.now are c.loop-number.number c.loop-number.invariant (omega arith) c.if-found-number.true

pub returns : goal.returns
returns c d g horizon blocks are = none_other d c.args.cut.now g horizon blocks c.args.found.now are c.loop-number.number c.loop-number.invariant (omega (arith, c.loop-number-test.false))
