-- The bits that a table keeps.
use Rattle.std.specs.Prelude.{ℕ, List, map, Vec}
use Rattle.std.specs.Borrow.{Bor}
use Rattle.std.specs.declared.alloc.Global.{Global}
use Rattle.gate_vcd.specs.declared.source.Source.{Source as Held}
use Rattle.gate_vcd.specs.Changes.{Source}
use Rattle.gate_vcd.specs.Shown.Known.{source}
use Rattle.vcd_bits.specs.declared.table.Table.{Table}
use Rattle.vcd_bits.specs.Names.{Bit}

abbrev pub bit_by : List ℕ → Source → Bit
bit_by name source = record { name = name; source = source }

-- a bit, without where it lies in memory
abbrev pub bit_of : Bor (List ℕ) × Held → Bit
bit_of b = bit_by b.0.now (source b.1)

abbrev pub bits_in : Table → List Bit
bits_in table = map (λ (e : Vec ℕ Global × Held). bit_by e.0.items (source e.1)) table.bits.entries
