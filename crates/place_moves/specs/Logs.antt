-- The log of a place.
use Rattle.std.specs.Prelude.{ℕ, ◌+◌, List, []}
use Rattle.gate_values.specs.declared.logic.Change.{Change}
use Rattle.gate_values.specs.Behaviour.{Source, Outside, Gate, Flop}
use Rattle.gate_values.specs.Changes.{before_time}

-- of the changes of a place that a gate or a flip-flop sets, those less than one delay past a mark
abbrev pub log_of : Source → ℕ → List Change → List Change
log_of Outside mark all = []
log_of (Gate kind delay inputs) mark all = before_time (mark + delay) all
log_of (Flop delay data_place clock initial) mark all = before_time (mark + delay) all
