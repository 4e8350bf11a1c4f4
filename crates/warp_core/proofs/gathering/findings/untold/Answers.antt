use Rattle.std.proofs.Common.{arith}
use Rattle.warp_core.proofs.Finding.{none_untold, first_untold}
use Rattle.warp_core.proofs.gathering.findings.untold.Goals as goal

pub returns-in-Some : goal.returns-in-Some
returns-in-Some c d g horizon blocks are of =
    first_untold d c.args.cut.now g horizon blocks c.args.found.now are c.loop-number.number of c.loop-number.invariant c.in-Some.net (omega arith) c.in-Some.is

pub returns : goal.returns
returns c d g horizon blocks are of = none_untold d c.args.cut.now g horizon blocks c.args.found.now are c.loop-number.number of c.loop-number.invariant (omega (arith, c.loop-number-test.false))
