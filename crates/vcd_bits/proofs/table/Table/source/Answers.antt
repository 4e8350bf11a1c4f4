use Rattle.vcd_bits.proofs.TableLaws.{named-lookup}
use Rattle.vcd_bits.proofs.table.Table.source.Goals as goal

pub returns : goal.returns
returns c = rw (c.copied.ensures, c.get.ensures.value) (named-lookup c.args.name.now c.args.self.now.bits.entries)
