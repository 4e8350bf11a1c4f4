use Rattle.std.proofs.Common.{arith}
use Rattle.warp_core.proofs.Finding.{found_more}
use Rattle.warp_core.proofs.gathering.findings.find.Goals as goal

pub loop-number-preserved : goal.loop-number-preserved
loop-number-preserved g c =
    let h = c.loop-number.invariant in
    record {
      count = omega (arith, h.count, c.in_ok-push.ensures.len);
      each = rw c.in_ok-push.ensures.items (found_more c.args.circuit.now c.args.cut.now c.args.stimulus.now c.args.horizon c.args.blocks.now c.loop-number.found.items c.loop-number.number c.in_ok-finding.finding
          (omega (arith, h.count, c.loop-number.found.ok.0)) h.each c.in_ok-finding.ensures);
    }

pub returns : goal.returns
returns g c =
    let h = c.loop-number.invariant in
    record {
      count = omega (arith, h.count, c.loop-number.found.ok.0, c.loop-number-test.false);
      each = λ b f l. h.each b f (omega (arith, l, c.loop-number-test.false));
    }
