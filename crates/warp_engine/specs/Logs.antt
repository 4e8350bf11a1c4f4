-- The log of a place: what it makes before a mark, as it comes true up to a horizon.
use Rattle.std.specs.Prelude.{ℕ, ◌+◌, List}
use Rattle.gate_values.specs.declared.logic.Logic.{Logic}
use Rattle.gate_values.specs.declared.logic.Change.{Change}
use Rattle.gate_values.specs.Behaviour.{Source, value}
use Rattle.gate_values.specs.Changes.{changes}
use Rattle.place_moves.specs.Logs.{log_of}

abbrev pub log_up_to : (ℕ → Source) → (ℕ → ℕ → Logic) → ℕ → ℕ → ℕ → List Change
log_up_to source given horizon mark place = log_of (source place) mark (changes (value source given place) (horizon + 1))
