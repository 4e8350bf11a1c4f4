use Rattle.std.proofs.Common.{◌∙◌}
use Rattle.vcd_bits.proofs.TableLaws.{kept-number}
use Rattle.vcd_bits.proofs.table.Table.find.Goals as goal

pub returns : goal.returns
returns c = c.get_index_of.ensures.index ∙ kept-number c.args.name.now c.args.self.now.bits.entries
