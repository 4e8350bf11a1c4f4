use Rattle.std.proofs.Common.{length, ap, arith}
use Rattle.warp_rounds.proofs.runs.taken_out.Goals as goal

pub loop-site-preserved : goal.loop-site-preserved
loop-site-preserved g c =
    let steps = c.in-Some.ensures.steps in
    let taken = c.in_ok-take_out.ensures in
    record {
      can_next = tt;
      is_finite = tt;
      count = omega (arith, taken.count, ap length steps.0, c.loop-site.invariant.count);
      lawful = taken.lawful;
      counted = taken.counted;
    }
