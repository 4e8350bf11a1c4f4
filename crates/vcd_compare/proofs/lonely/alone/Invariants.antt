use Rattle.std.proofs.Common.{◌≡◌, ◌≤◌, take, count_by}
use Rattle.vcd_bits.specs.Shown.Tables.{bits_in}
use Rattle.vcd_compare.specs.Pairs.{lacks}
use Rattle.vcd_compare.proofs.lonely.alone.Given as goal

-- of the bits so far those are counted that the other dump lacks
abbrev pub invariant-loop-number : goal.invariant-loop-number
invariant-loop-number l = (l.count ≡ count_by (lacks (bits_in l.other)) (take l.number (bits_in l.table))) × (l.count ≤ l.number)
