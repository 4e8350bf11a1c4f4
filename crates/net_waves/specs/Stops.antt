-- What only proofs need beside `Waves`.
use Rattle.std.specs.Prelude.{◌≡◌, ℕ, if◌then◌else◌, Option, Some, None, List}
use Rattle.gate_values.specs.declared.logic.Logic.{Logic}
use Rattle.gate_values.specs.declared.logic.Change.{Change}
use Rattle.gate_values.specs.Changes.{same, pair_at}
use Rattle.net_waves.specs.Waves.{wave_of}
use Rattle.net_waves.specs.declared.timeline.Stop.{Stop}
use Rattle.net_waves.specs.Timeline.{count}

-- how often a value stands where there is this one, or none
abbrev pub marked : Logic → Option Logic → ℕ
marked v None = 0
marked v (Some w) = if same v w then 1 else 0

-- The stops are the changes of the lists, each once, and no others.
abbrev pub AreStopsOf : List (List Change) → List Stop → Type 0
AreStopsOf lists stops = (s : Stop) → count s stops ≡ marked s.value (pair_at (wave_of lists s.net) s.time)
