-- The common unit of two dumps, and the times that are compared in it.
use Rattle.std.specs.Prelude.{◌≡◌, ℕ, ◌*◌, ◌/◌, ◌<◌, nat_le, if◌then◌else◌, List, Option, Some, None, option_map, unwrap_or}
use Rattle.std.specs.Borrow.{Bor}
use Rattle.gate_stimulus.specs.declared.timescale.Timescale.{Timescale}
use Rattle.gate_stimulus.specs.declared.timescale.Unit.{Unit}
use Rattle.gate_stimulus.specs.declared.timescale.Unit.TheVariants as units
use Rattle.bit_compare.specs.declared.times.Times.{Times}
use Rattle.bit_compare.specs.declared.difference.Tolerance.{Tolerance}
use Rattle.bit_compare.specs.Bits.{Lens}
use Rattle.vcd_compare.specs.declared.report.Options.{Options}

-- how long a unit of time is, in fs
abbrev pub femtoseconds_in : Unit → ℕ
femtoseconds_in units.S = 1000000000000000
femtoseconds_in units.Ms = 1000000000000
femtoseconds_in units.Us = 1000000000
femtoseconds_in units.Ns = 1000000
femtoseconds_in units.Ps = 1000
femtoseconds_in units.Fs = 1

abbrev pub femtoseconds : Timescale → ℕ
femtoseconds t = t.number * femtoseconds_in t.unit

-- the finer of two timescales
abbrev pub finer : Timescale → Timescale → Timescale
finer a b = if nat_le (femtoseconds a) (femtoseconds b) then a else b

-- how many units of the finer timescale one of a dump is
abbrev pub units_in : Timescale → Timescale → ℕ
units_in dump unit = femtoseconds dump / femtoseconds unit

-- a strobe goes on
abbrev pub Moves : Options → Type 0
Moves options = (strobe : ℕ × ℕ) → options.strobes ≡ Some strobe → 0 < strobe.1

abbrev pub strobe_start : ℕ → Option (ℕ × ℕ) → ℕ
strobe_start scale None = 0
strobe_start scale (Some strobe) = strobe.0 * scale

abbrev pub strobe_step : ℕ → Option (ℕ × ℕ) → ℕ
strobe_step scale None = 1
strobe_step scale (Some strobe) = strobe.1 * scale

-- the times that are compared, of which each of the options counts so many of the common unit
abbrev pub times_of : Options → ℕ → ℕ → Times
times_of options scale last = record {
  from = options.from * scale;
  to = unwrap_or options.to last * scale;
  start = strobe_start scale options.strobes;
  step = strobe_step scale options.strobes;
}

-- how far values may stand from each other
abbrev pub how_of : Options → ℕ → Tolerance
how_of options scale = record { within = options.within * scale; any_for_x = options.any_for_x }

-- how the times of the dump that is expected are seen, and those of the other one
abbrev pub expected_lens : ℕ → Lens
expected_lens scale = record { scale = scale; later = 0; earlier = 0 }

abbrev pub actual_lens : Options → ℕ → ℕ → Lens
actual_lens options scale own = record { scale = own; later = options.later * scale; earlier = options.earlier * scale }

-- a scope that is asked for, without where it lies in memory
abbrev pub asked_in : Option (Bor (List ℕ)) → Option (List ℕ)
asked_in scope = option_map (λ (s : Bor (List ℕ)). s.now) scope
