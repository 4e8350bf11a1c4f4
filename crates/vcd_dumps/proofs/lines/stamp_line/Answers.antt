use Rattle.std.proofs.Common.{◌≤◌, arith}
use Rattle.std.proofs.lemmas.Fmt.{length-decimal-le}
use Rattle.vcd_dumps.proofs.Arrays.{drop_before}
use Rattle.vcd_dumps.proofs.lines.stamp_line.Goals as goal

pub write_digits-digits-requires : goal.write_digits-digits-requires
write_digits-digits-requires c = search (arith, length-decimal-le 20)

pub overflow_sub-line : goal.overflow_sub-line
overflow_sub-line c = omega (arith, length-decimal-le 20 c.args.time (omega arith) (omega arith) (omega arith))

pub overflow_sub-result : goal.overflow_sub-result
overflow_sub-result c = overflow_sub-line c

pub returns-clause-bytes : goal.returns-clause-bytes
returns-clause-bytes c =
    let some : 1 ≤ c.write_digits-digits.result = omega (arith, length-decimal-le 20 c.args.time (omega arith) (omega arith) (omega arith)) in
    drop_before c.write_digits-digits.new.buf c.write_digits-digits.result 35 _ some (omega arith) c.write_digits-digits.ensures.written
