use Rattle.gate_vcd.specs.Shown.Scalars.{vector as vector_in}
use Rattle.vcd_bits.specs.Shown.Tables.{bits_in}
use Rattle.vcd_bits.proofs.TableLaws.{vector-more}
use Rattle.vcd_bits.proofs.table.Table.put_vector.Goals as goal

pub loop-bit-preserved : goal.loop-bit-preserved
loop-bit-preserved c =
    vector-more c.args.path.now c.args.code.now (vector_in c.args.vector.now) c.loop-bit.bit c.number_from_left-number.result c.abs_diff-place.result c.in_ok-name.name.items (bits_in c.args.self.now) (bits_in c.loop-bit.self) (bits_in c.put.new.self)
    c.number_from_left-number.ensures c.in_ok-name.ensures.ok c.abs_diff-place.ensures c.loop-bit.invariant c.in_ok-put.ensures.ok
