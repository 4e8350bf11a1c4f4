-- What nets are at time 0.
use Rattle.std.specs.Prelude.{◌≡◌, ℕ, ◌<◌, List, length, get_or}
use Rattle.gate_values.specs.declared.logic.Logic.{Logic}
use Rattle.gate_values.specs.declared.logic.Logic.TheVariants.{X}
use Rattle.gate_values.specs.declared.logic.Change.{Change}
use Rattle.net_waves.specs.Waves.{wave_value}

-- each net's value at time 0, of their lists of changes
abbrev pub AreFirstsOf : List (List Change) → List Logic → Type 0
AreFirstsOf lists firsts = (length firsts ≡ length lists) × ((n : ℕ) → n < length lists → get_or firsts n X ≡ wave_value lists n 0)
