use Rattle.std.proofs.Common.{◌∙◌, ap, sym}
use Rattle.bit_compare.specs.Shown.Moments.{shown}
use Rattle.bit_compare.proofs.Agreeing.{stands-on, until-along}
use Rattle.bit_compare.proofs.Stretches.{at-ready}
use Rattle.bit_compare.proofs.difference.difference_between.Goals as goal

pub loop-next-preserved : goal.loop-next-preserved
loop-next-preserved c =
    let before = c.loop-next.invariant in
    let expected = ap (λ b. b.now) c.advance.ensures.shown ∙ before.expected_shown in
    let actual = ap (λ b. b.now) c.advance-in-Some.ensures.shown ∙ before.actual_shown in
    let is = until-along c.args.how.now _ c.args.expected.now _ c.args.actual.now _ c.in-Some.time c.agreed_until-until.result expected actual c.advance.ensures.time c.agreed_until-until.ensures in
    record {
      expected = at-ready c.advance.new.self c.advance.ensures.at;
      actual = at-ready c.advance-in-Some.new.self c.advance-in-Some.ensures.at;
      expected_shown = expected;
      actual_shown = actual;
      expected_within = c.advance.ensures.within ∙ before.expected_within;
      actual_within = c.advance-in-Some.ensures.within ∙ before.actual_within;
      time = c.advance-in-Some.ensures.time ∙ sym c.advance.ensures.time;
      stands = rw c.advance.ensures.time (stands-on c.args.how.now c.args.times.now (shown c.args.expected.now) (shown c.args.actual.now) c.loop-next.at_expected.time c.in-Some.time c.agreed_until-until.result (rw c.in-Some.is at before.stands) is c.if-until-time.false c.next-next-in-Some.result c.next-next-in-Some.ensures);
    }
