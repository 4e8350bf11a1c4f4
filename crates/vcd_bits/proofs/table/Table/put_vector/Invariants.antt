use Rattle.std.proofs.Common.{◌≡◌}
use Rattle.gate_vcd.specs.Shown.Scalars.{vector as vector_in}
use Rattle.vcd_bits.specs.Names.{vector_bits, with_bits}
use Rattle.vcd_bits.specs.Shown.Tables.{bits_in}
use Rattle.vcd_bits.proofs.table.Table.put_vector.Given as goal

-- the bits so far are kept
abbrev pub invariant-loop-bit : goal.invariant-loop-bit
invariant-loop-bit l = bits_in l.self ≡ with_bits (bits_in l.initial.self) (vector_bits l.path l.code (vector_in l.vector) l.bit)
