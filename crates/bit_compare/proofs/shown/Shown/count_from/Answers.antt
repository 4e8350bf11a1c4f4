use Rattle.std.proofs.Common.{arith}
use Rattle.bit_compare.specs.Shown.Moments.{moments}
use Rattle.bit_compare.proofs.Moments.{counts-all, passed-more}
use Rattle.bit_compare.proofs.shown.Shown.count_from.Goals as goal

pub overflow_add-count : goal.overflow_add-count
overflow_add-count c = omega (arith, c.is_passed.ensures.room c.loop-count-test.true)

pub loop-count-smaller : goal.loop-count-smaller
loop-count-smaller c = omega (arith, c.is_passed.ensures.within c.loop-count-test.true)

pub loop-count-preserved : goal.loop-count-preserved
loop-count-preserved c = passed-more (moments c.args.self.now) c.args.time c.loop-count.count c.loop-count.invariant (c.is_passed.ensures.within c.loop-count-test.true) (c.is_passed.ensures.passed c.loop-count-test.true)

pub returns : goal.returns
returns c = counts-all (moments c.args.self.now) c.args.time c.loop-count.count c.requires.shown.moments c.loop-count.invariant (c.is_passed.ensures.later c.loop-count-test.false)
