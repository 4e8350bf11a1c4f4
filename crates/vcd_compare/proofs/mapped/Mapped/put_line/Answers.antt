use Rattle.std.proofs.Common.{None, Some, inr}
use Rattle.vcd_bits.specs.Shown.Tables.{bits_in}
use Rattle.vcd_compare.proofs.MapLaws.{line-of-names, line-of-none}
use Rattle.vcd_compare.proofs.mapped.Mapped.put_line.Goals as goal

pub returns-in-Ok-None : goal.returns-in-Ok-None
returns-in-Ok-None c pairs kept = (pairs, line-of-names (bits_in c.args.expected.now) (bits_in c.args.actual.now) pairs c.args.content.now None (rw c.in-Ok-None.field-0-is at c.in-Ok-None.ensures), kept)

pub returns-in-Ok-Some : goal.returns-in-Ok-Some
returns-in-Ok-Some c pairs kept =
    let said = line-of-names (bits_in c.args.expected.now) (bits_in c.args.actual.now) pairs c.args.content.now (Some (c.in-Ok-Some.names.0.now, c.in-Ok-Some.names.1.now)) (rw c.in-Ok-Some.field-0-is at c.in-Ok-Some.ensures) in
    rw said (c.put_names.ensures pairs kept)

pub returns-in-Err : goal.returns-in-Err
returns-in-Err c pairs kept = inr (c.in-Err.cause, line-of-none (bits_in c.args.expected.now) (bits_in c.args.actual.now) pairs c.args.content.now c.in-Err.cause c.in-Err.ensures, c.line_fault.ensures)
