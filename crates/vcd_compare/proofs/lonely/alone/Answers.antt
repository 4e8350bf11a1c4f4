use Rattle.std.proofs.Common.{◌<◌, length, get_or, arith, sym, ◌∙◌}
use Rattle.gate_vcd.proofs.Links.{slice_get-is}
use Rattle.vcd_bits.specs.Shown.Tables.{bits_in}
use Rattle.vcd_compare.specs.Pairs.{lacks}
use Rattle.vcd_compare.proofs.AloneLaws.{alone-no, alone-yes, no_bit}
use Rattle.vcd_compare.proofs.lonely.alone.Goals as goal
use Rattle.vcd_compare.proofs.lonely.alone.Goals.{then-is_alone, else-is_alone}

pub loop-number-preserved : goal.loop-number-preserved
loop-number-preserved c =
    let l : c.loop-number.number < length (bits_in c.args.table.now) = omega (arith, c.loop-number-test.true, c.count-number-end.ensures) in
    let is = c.is_alone.ensures (get_or (bits_in c.args.table.now) c.loop-number.number no_bit) (slice_get-is (bits_in c.args.table.now) c.loop-number.number no_bit l) in
    elim c.if-is_alone.branch [
      | then-is_alone w ↦ rw w.count-is (alone-yes (lacks (bits_in c.args.other.now)) (bits_in c.args.table.now) c.loop-number.number c.loop-number.count l (sym is ∙ w.if-is_alone.true) c.loop-number.invariant.0, omega (arith, c.loop-number.invariant.1))
      | else-is_alone w ↦ rw w.count-is (alone-no (lacks (bits_in c.args.other.now)) (bits_in c.args.table.now) c.loop-number.number c.loop-number.count l (sym is ∙ w.if-is_alone.false) c.loop-number.invariant.0, omega (arith, c.loop-number.invariant.1))
    ]
