-- What contracts see of waves.
use Rattle.std.specs.Prelude.{ℕ, ◌<◌, ◌^◌, List, length}
use Rattle.gate_values.specs.declared.logic.Change.{Change}
use Rattle.net_waves.specs.declared.timeline.Stop.{Stop}
use Rattle.net_waves.specs.Waves.{wave_of, IsWave}
use Rattle.net_waves.specs.Stops.{AreStopsOf}

-- each list is a wave, and the stops are in step with the lists
pub record IsInStep (lists : List (List Change)) (stops : List Stop) : Type 0 where
  pub few : length lists < 2 ^ 32
  pub waves : (n : ℕ) → IsWave (wave_of lists n)
  pub in_step : AreStopsOf lists stops
