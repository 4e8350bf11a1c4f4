use Rattle.std.proofs.Common.{arith, ap, ◌∙◌}
use Rattle.gate_vcd.specs.declared.variable.Variable.{Variable}
use Rattle.vcd_bits.proofs.FirstScope.{scope-found, scope-none, scope-on}
use Rattle.vcd_bits.proofs.dump.first_scope.Goals as goal

pub loop-at-preserved : goal.loop-at-preserved
loop-at-preserved c =
    scope-on c.args.paths.now c.args.variables.now c.loop-at.at c.loop-at.invariant c.index-variables-at.result (omega (arith, c.loop-at-test.true, c.min-at-end.ensures)) (omega (arith, c.loop-at-test.true, c.min-at-end.ensures)) c.index-variables-at.is (ap (λ (v : Variable). v.valued) c.index-variables-at.is ∙ c.if-variables-at.false)

pub returns-then-variables-at : goal.returns-then-variables-at
returns-then-variables-at c =
    scope-found c.args.paths.now c.args.variables.now c.loop-at.at c.loop-at.invariant c.index-paths-at.result c.as_slice.result.now c.index-variables-at.result (omega (arith, c.loop-at-test.true, c.min-at-end.ensures)) (omega (arith, c.loop-at-test.true, c.min-at-end.ensures))
    c.index-paths-at.is c.as_slice.ensures.value c.index-variables-at.is (ap (λ (v : Variable). v.valued) c.index-variables-at.is ∙ c.if-variables-at.true)

pub returns : goal.returns
returns c = scope-none c.args.paths.now c.args.variables.now c.loop-at.at c.loop-at.invariant (omega (arith, c.loop-at-test.false, c.loop-at.auto.at-end, c.min-at-end.ensures))
