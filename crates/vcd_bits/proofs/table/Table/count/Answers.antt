use Rattle.std.proofs.Common.{◌∙◌, sym}
use Rattle.std.proofs.lemmas.List.{length-map}
use Rattle.vcd_bits.proofs.TableLaws.{entry_bit}
use Rattle.vcd_bits.proofs.table.Table.count.Goals as goal

pub returns : goal.returns
returns c = c.len.ensures.len ∙ sym (length-map c.args.self.now.bits.entries entry_bit)
