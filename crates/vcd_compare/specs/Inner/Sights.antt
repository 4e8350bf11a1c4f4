-- How two dumps are looked at.
use Rattle.std.specs.Prelude.{ℕ, ◌*◌, ◌<◌, ◌^◌}
use Rattle.gate_stimulus.specs.declared.timescale.Timescale.{Timescale}
use Rattle.vcd_compare.specs.declared.report.Options.{Options}
use Rattle.vcd_compare.specs.Times.{finer, how_of, times_of, units_in}
use Rattle.bit_compare.specs.Bits.{Lens}
use Rattle.bit_compare.specs.Shown.Steps.{AreSmall}
use Rattle.vcd_compare.specs.declared.sight.Sight.{Sight}

abbrev pub expected_through : Sight → Lens
expected_through s = record { scale = s.scale; later = 0; earlier = 0 }

abbrev pub actual_through : Sight → Lens
actual_through s = record { scale = s.own; later = s.later; earlier = s.earlier }

-- no time is past the machine's numbers
pub record IsSmallSight (s : Sight) : Type 0 where
  pub times : AreSmall s.times
  pub within : s.how.within < 2 ^ 126
  pub scale : s.scale < 2 ^ 60
  pub own : s.own < 2 ^ 60
  pub scale_counts : 0 < s.scale
  pub own_counts : 0 < s.own
  pub later : s.later < 2 ^ 126
  pub earlier : s.earlier < 2 ^ 126

-- how two dumps with these timescales are looked at
abbrev pub sight_by : Options → Timescale → Timescale → ℕ → Sight
sight_by options e a last =
    let scale = units_in e (finer e a) in
    record { times = times_of options scale last; how = how_of options scale; scale = scale; own = units_in a (finer e a); later = options.later * scale; earlier = options.earlier * scale }
