use Rattle.std.proofs.Common.{arith}
use Rattle.vcd_bits.specs.Shown.Tables.{bits_in}
use Rattle.vcd_bits.proofs.TableLaws.{of-all, of-more}
use Rattle.vcd_bits.proofs.table.Table.of.Goals as goal

pub loop-at-preserved : goal.loop-at-preserved
loop-at-preserved c =
    of-more c.args.scope.now c.as_slice-paths.result.now c.as_slice-variables.result.now c.loop-at.at c.index-paths-at.result c.as_slice.result.now c.index-variables-at.result (bits_in c.loop-at.table) (bits_in c.put_below.new.self)
    (omega (arith, c.loop-at-test.true, c.min-at-end.ensures)) (omega (arith, c.loop-at-test.true, c.min-at-end.ensures)) c.index-paths-at.is c.index-variables-at.is c.as_slice.ensures.value c.loop-at.invariant c.in_ok-put_below.ensures.ok

pub returns-clause-ok : goal.returns-clause-ok
returns-clause-ok c =
    rw (← c.as_slice-paths.ensures.value, ← c.as_slice-variables.ensures.value)
    (of-all c.args.scope.now c.as_slice-paths.result.now c.as_slice-variables.result.now c.loop-at.at (bits_in c.loop-at.table) (omega (arith, c.loop-at-test.false, c.loop-at.auto.at-end, c.min-at-end.ensures)) c.loop-at.invariant)
