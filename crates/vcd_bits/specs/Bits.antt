-- The bits of a dump.
use Rattle.std.specs.Prelude.{ℕ, List, [], Option}
use Rattle.vcd_bits.specs.Scopes.{Scoped}
use Rattle.vcd_bits.specs.Names.{Bit, all_bits, scope_in, with_bits}

-- the bits of the scope that is asked for, or of that of the first variable, each once
abbrev pub bits_declared : Option (List ℕ) → Scoped → List Bit
bits_declared asked s = with_bits [] (all_bits (scope_in asked s.paths s.header.variables) s.paths s.header.variables)
