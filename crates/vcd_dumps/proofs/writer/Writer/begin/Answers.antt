use Rattle.std.proofs.Common.{refl}
use Rattle.byte_sinks.proofs.Passing.{passes_then}
use Rattle.vcd_dumps.proofs.Writing.{taken_begun}
use Rattle.vcd_dumps.proofs.writer.Writer.begin.Goals as goal

pub returns-clause-taken : goal.returns-clause-taken
returns-clause-taken c =
    let first = rw c.as_slice.ensures.value at c.put_values.ensures in
    taken_begun c.args.self.now _ c.if-self.false refl refl refl refl (passes_then first c.put_text.ensures)
