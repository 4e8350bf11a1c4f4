use Rattle.std.proofs.Common.{refl}
use Rattle.gate_vcd.specs.Shown.Words.{texts}
use Rattle.vcd_bits.proofs.ScopedLaws.{noted-scope}
use Rattle.vcd_bits.proofs.scoped.Scoped.note.Goals as goal

pub returns-in-Scope-clause-noted : goal.returns-in-Scope-clause-noted
returns-in-Scope-clause-noted c = rw c.in-Scope.is (noted-scope c.args.self.now (record { declared = c.args.self.now.declared; «open» = c.open.new.self; paths = c.args.self.now.paths }) (texts c.args.body.now) c.scope_name.result.now c.open.result c.scope_name.ensures c.open.ensures.ok c.open.ensures.err refl)
