-- Lists of changes in memory.
use Rattle.std.specs.Prelude.{ℕ, ◌<◌, List, slice_index_or, length}
use Rattle.gate_values.specs.declared.logic.Change.{Change}

-- the times of the changes rise
abbrev pub IsRising : List Change → Type 0
IsRising cs = (i j : ℕ) (d : Change) → i < j → j < length cs → (slice_index_or cs i d).time < (slice_index_or cs j d).time
