use Rattle.std.proofs.Common.{take}
use Rattle.vcd_bits.specs.Shown.Tables.{bits_in}
use Rattle.vcd_compare.specs.Pairs.{pairs_of}
use Rattle.vcd_compare.specs.Inner.Held.{ArePairs}
use Rattle.vcd_compare.proofs.pairs.Pairs.of.Given as goal

-- the pairs of the bits so far
abbrev pub invariant-loop-number : goal.invariant-loop-number
invariant-loop-number l = ArePairs (pairs_of (take l.number (bits_in l.expected)) (bits_in l.actual)) (bits_in l.expected) l.pairs
