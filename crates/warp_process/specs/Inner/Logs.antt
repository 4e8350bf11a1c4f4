-- The log of a net.
use Rattle.std.specs.Prelude.{ℕ, ◌<◌, List, length, slice_index_or}
use Rattle.gate_values.specs.declared.logic.Change.{Change}

-- the times of the changes rise
pub record IsLog (cs : List Change) : Type 0 where
  pub in_order : (i j : ℕ) (d : Change) → i < j → j < length cs → (slice_index_or cs i d).time < (slice_index_or cs j d).time
