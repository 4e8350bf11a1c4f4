-- The values of a circuit under a stimulus.
use Rattle.std.specs.Prelude.{◌≡◌, ℕ, ◌+◌, ◌<◌, List, length, map}
use Rattle.std.specs.List.{range_with_len}
use Rattle.gate_values.specs.declared.logic.Logic.{Logic}
use Rattle.gate_values.specs.declared.logic.Change.{Change}
use Rattle.gate_values.specs.Behaviour.{value}
use Rattle.gate_values.specs.Changes.{changes}
use Rattle.gate_netlist.specs.Circuit.{Design, nets_of, source_of}
use Rattle.gate_stimulus.specs.Given.{Given, value_at}
use Rattle.net_waves.specs.Waves.{wave_of}

-- what the stimulus gives each net at each time
abbrev pub given_by : Given → ℕ → ℕ → Logic
given_by g t n = value_at g n t

-- the value of a net at a time, under a stimulus
abbrev pub value_under : Design → Given → ℕ → ℕ → Logic
value_under d g n t = value (source_of d) (given_by g) n t

-- a list for each net: the changes of its value, up to the horizon
pub record AreCircuitWaves (d : Design) (g : Given) (horizon : ℕ) (lists : List (List Change)) : Type 0 where
  pub nets : length lists ≡ nets_of d
  pub waves : (n : ℕ) → n < nets_of d → wave_of lists n ≡ changes (value_under d g n) (horizon + 1)

-- that list for each net
abbrev pub circuit_waves : Design → Given → ℕ → List (List Change)
circuit_waves d g horizon = map (λ n. changes (value_under d g n) (horizon + 1)) (range_with_len 0 (nets_of d))
