-- A dump whose declarations are read.
use Rattle.std.specs.Prelude.{◌≡◌, ℕ, List, Option, None, Result, Ok, Err}
use Rattle.gate_vcd.specs.declared.fault.StimFault.{StimFault}
use Rattle.gate_vcd.specs.Tokens.{Token}
use Rattle.gate_vcd.specs.Reading.{Fails}
use Rattle.gate_vcd.specs.Shown.Commands.{variables}
use Rattle.vcd_bits.specs.declared.dump.Dump.{Dump}
use Rattle.vcd_bits.specs.Scopes.{Scoped, declaring, nothing_declared}
use Rattle.vcd_bits.specs.Bits.{bits_declared}
use Rattle.vcd_bits.specs.Shown.Tables.{bits_in}

-- what is kept of these declarations, with the bits of a scope
pub record IsOpened (asked : Option (List ℕ)) (s : Scoped) (d : Dump) : Type 0 where
  pub timescale : d.timescale ≡ s.header.timescale
  pub variables : variables d.variables.items ≡ s.header.variables
  pub bits : bits_in d.table ≡ bits_declared asked s

-- the declarations that these tokens begin with, or their first fault; want of memory alone is no matter of the text
abbrev pub Opens : Option (List ℕ) → List Token → Result Dump StimFault → Type 0
Opens asked ts (Ok d) = (s : Scoped) × (declaring nothing_declared None ts ≡ Ok (s, d.words)) × IsOpened asked s d
Opens asked ts (Err e) = Fails e (declaring nothing_declared None ts)
