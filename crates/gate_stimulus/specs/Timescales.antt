-- The units of time, as a dump names them.
use Rattle.std.specs.Prelude.{ℕ, List, codes}
use Rattle.gate_stimulus.specs.declared.timescale.Unit.{Unit}
use Rattle.gate_stimulus.specs.declared.timescale.Unit.TheVariants as units
use Rattle.gate_stimulus.specs.declared.timescale.Timescale.{Timescale}

abbrev pub unit_name : Unit → List ℕ
unit_name units.S = codes "s"
unit_name units.Ms = codes "ms"
unit_name units.Us = codes "us"
unit_name units.Ns = codes "ns"
unit_name units.Ps = codes "ps"
unit_name units.Fs = codes "fs"

-- the timescale of a text that has none
abbrev pub default_timescale : Timescale
default_timescale = record { number = 1; unit = units.Ns }
