use Rattle.std.proofs.Common.{◌≡◌, ◌∙◌, sym, arith}
use Rattle.gate_vcd.proofs.VectorLaws.{rfind-here, rfind-before}
use Rattle.gate_vcd.proofs.vectors.last_bracket.Goals as goal

pub returns-then-text-at-eq91-clause-place : goal.returns-then-text-at-eq91-clause-place
returns-then-text-at-eq91-clause-place c = sym (rfind-here 91 c.args.text.now c.loop-at.at c.loop-at-test.true c.if-text-at-eq91.true) ∙ c.loop-at.invariant.rest

pub loop-at-preserved : goal.loop-at-preserved
loop-at-preserved c = record {
  within = omega (arith, c.loop-at.invariant.within);
  rest = sym (rfind-before 91 c.args.text.now c.loop-at.at c.loop-at-test.true c.if-text-at-eq91.false) ∙ c.loop-at.invariant.rest;
}

pub returns-clause-place : goal.returns-clause-place
returns-clause-place c = let e : c.loop-at.at ≡ 0 = omega arith in rw e at c.loop-at.invariant.rest
