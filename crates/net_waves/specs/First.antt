-- What stops say of nets at time 0.
use Rattle.std.specs.Prelude.{ℕ, ◌==◌, ◌&&◌, if◌then◌else◌, List, [], ◌∷◌}
use Rattle.gate_values.specs.declared.logic.Logic.{Logic}
use Rattle.net_waves.specs.declared.timeline.Stop.{Stop}

-- the value of a net at time 0 by a stop, else the one before
abbrev pub first_by : Stop → Logic → ℕ → Logic
first_by s v n = if (s.time == 0) && (s.net == n) then s.value else v

-- by stops, one after another
abbrev pub first_from : Logic → List Stop → ℕ → Logic
first_from v [] n = v
first_from v (s ∷ ss) n = first_from (first_by s v n) ss n
