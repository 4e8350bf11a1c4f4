use Rattle.std.proofs.Common.{arith, sym}
use Rattle.bit_compare.specs.Inner.Cursors.{recent_of, seen_by}
use Rattle.bit_compare.proofs.Moments.{counts-all, passed-more}
use Rattle.bit_compare.proofs.Stretches.{recent-more}
use Rattle.bit_compare.proofs.cursor.Cursor.follow.Goals as goal

pub loop-self-smaller : goal.loop-self-smaller
loop-self-smaller c = omega (arith, c.is_passed.ensures.within c.loop-self-test.true)

pub loop-self-preserved : goal.loop-self-preserved
loop-self-preserved c = record {
  shown = c.loop-self.invariant.shown;
  within = c.loop-self.invariant.within;
  time = c.loop-self.invariant.time;
  passed = c.loop-self.invariant.passed;
  is_shown = c.loop-self.invariant.is_shown;
  near = passed-more (seen_by c.loop-self.self) c.args.time c.loop-self.self.near c.loop-self.invariant.near (c.is_passed.ensures.within c.loop-self-test.true) (c.is_passed.ensures.passed c.loop-self-test.true);
  recent = λ v. recent-more c.loop-self.self.shown.now.first (seen_by c.loop-self.self) c.loop-self.invariant.is_shown.moments c.loop-self.self.near v c.value-value.result (recent_of c.loop-self.self.recent v) (recent_of c.put.new.self v) (c.is_passed.ensures.within c.loop-self-test.true) (sym c.value-value.ensures) (c.put.ensures v) (c.loop-self.invariant.recent v);
}

pub returns-clause-near : goal.returns-clause-near
returns-clause-near c = counts-all (seen_by c.loop-self.self) c.args.time c.loop-self.self.near c.loop-self.invariant.is_shown.moments c.loop-self.invariant.near (c.is_passed.ensures.later c.loop-self-test.false)
