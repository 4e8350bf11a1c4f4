use Rattle.gate_vcd.specs.Shown.Commands.{variables}
use Rattle.vcd_bits.specs.Shown.Tables.{bits_in}
use Rattle.vcd_bits.proofs.CodeLaws.{coded-held, declared-source}
use Rattle.vcd_bits.proofs.dump.Dump.source.Goals as goal

pub returns-clause-declared : goal.returns-clause-declared
returns-clause-declared c asked s is =
    coded-held (variables c.args.self.now.variables.items) (bits_in c.args.self.now.table) c.args.name.now c.source.result c.source.ensures
    (λ x e. rw is.variables (declared-source asked s c.args.name.now x (rw is.bits at e)))
