use Rattle.vcd_bits.specs.Shown.Tables.{bits_in}
use Rattle.vcd_compare.specs.Inner.Found.{AreFoundUpTo, IsFoundBy}
use Rattle.vcd_compare.proofs.found.differing.Given as goal

-- of the pairs so far those that differ are found
abbrev pub invariant-loop-pair : goal.invariant-loop-pair
invariant-loop-pair l = AreFoundUpTo (IsFoundBy l.sight l.expected l.actual) (bits_in l.table) l.pairs.numbers.items l.pair l.found.items
