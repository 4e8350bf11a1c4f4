use Rattle.std.proofs.Common.{◌≡◌, [], take}
use Rattle.gate_vcd.specs.Shown.Commands.{variables}
use Rattle.vcd_bits.specs.Names.{all_bits, with_bits}
use Rattle.vcd_bits.specs.Shown.Held.{texts_in}
use Rattle.vcd_bits.specs.Shown.Tables.{bits_in}
use Rattle.vcd_bits.proofs.table.Table.of.Given as goal

-- the bits of the variables so far are kept
abbrev pub invariant-loop-at : goal.invariant-loop-at
invariant-loop-at l = bits_in l.table ≡ with_bits [] (all_bits l.scope (take l.at (texts_in l.paths)) (take l.at (variables l.variables)))
