-- What the lines of a text that pairs bits leave.
use Rattle.std.specs.Prelude.{◌≡◌, ◌⊎◌, ℕ, false, List, length, get_or, Option, Some, None, Result, Ok, Err}
use Rattle.std.specs.Borrow.{Bor}
use Rattle.vcd_bits.specs.Names.{Bit, number_of}
use Rattle.vcd_compare.specs.declared.fault.CompareFault.{CompareFault}
use Rattle.vcd_compare.specs.declared.fault.CompareFault.TheVariants as faults
use Rattle.vcd_compare.specs.declared.fault.MapCause.{MapCause}
use Rattle.vcd_compare.specs.declared.fault.MapFault.{MapFault}
use Rattle.vcd_compare.specs.declared.mapped.Mapped.{Mapped}
use Rattle.vcd_compare.specs.declared.pairs.Pairs.{Pairs}
use Rattle.vcd_compare.specs.Comparison.{out_of_memory}
use Rattle.vcd_compare.specs.Map.{is_paired, pairs_from}
use Rattle.vcd_compare.specs.Pairs.{Pair}
use Rattle.vcd_compare.specs.Inner.Held.{ArePairs}

-- the names of a line, without where they lie in memory
abbrev pub AreNames : Result (Option (Bor (List ℕ) × Bor (List ℕ))) MapCause → Result (Option (List ℕ × List ℕ)) MapCause → Type 0
AreNames (Ok None) reading = reading ≡ Ok None
AreNames (Ok (Some names)) reading = reading ≡ Ok (Some (names.0.now, names.1.now))
AreNames (Err cause) reading = reading ≡ Err cause

abbrev pub line_fault : ℕ → MapCause → CompareFault
line_fault line cause = faults.Map (record { line = line; cause = cause })

-- these pairs are kept, and the expected bits that stand in one are marked
pub record IsMapped (bits : List Bit) (pairs : List Pair) (m : Mapped) : Type 0 where
  pub are : ArePairs pairs bits m.pairs
  pub marks : length m.named.items ≡ length bits
  pub named : (name : List ℕ) (k : ℕ) → number_of bits name ≡ Some k → get_or m.named.items k false ≡ is_paired pairs name

-- what a line leaves, or its fault; want of memory alone is no matter of the text
abbrev pub IsPut : List Bit → ℕ → Mapped → Result (Unit {0}) CompareFault → Result (List Pair) MapCause → Type 0
IsPut bits line new (Ok _) reading = (pairs : List Pair) × (reading ≡ Ok pairs) × IsMapped bits pairs new
IsPut bits line new (Err f) reading = (f ≡ out_of_memory) ⊎ ((cause : MapCause) × (reading ≡ Err cause) × (f ≡ line_fault line cause))

-- some pairs are kept, and with what the lines that are left say they are all
pub record IsMappedSoFar (bits others : List Bit) (m : Mapped) (line : ℕ) (rest : List (List ℕ)) (total : Result (List Pair) MapFault) : Type 0 where
  pub pairs : List Pair
  pub kept : IsMapped bits pairs m
  pub left : pairs_from bits others pairs line rest ≡ total

-- these pairs are kept, or there is a fault
abbrev pub ArePaired : List Bit → Result Pairs CompareFault → Result (List Pair) MapFault → Type 0
ArePaired bits (Ok p) reading = (pairs : List Pair) × (reading ≡ Ok pairs) × ArePairs pairs bits p
ArePaired bits (Err f) reading = (f ≡ out_of_memory) ⊎ ((fault : MapFault) × (reading ≡ Err fault) × (f ≡ faults.Map fault))
