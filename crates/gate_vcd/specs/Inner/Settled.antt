-- A change after others of a list that aren't later.
use Rattle.std.specs.Prelude.{ℕ, ◌-◌, Bool, false, nat_eq, if◌then◌else◌, List, [], ◌∷◌, ◌++◌, length, take, slice_get, Option, Some, None}
use Rattle.std.specs.Option.{option_map_or}
use Rattle.gate_values.specs.declared.logic.Logic.{Logic}
use Rattle.gate_values.specs.declared.logic.Logic.TheVariants as logic
use Rattle.gate_values.specs.declared.logic.Change.{Change}
use Rattle.gate_values.specs.Changes.{same}

-- the value before a further change
abbrev pub value_after : List Change → Logic
value_after cs = option_map_or (λ (c : Change). c.value) (slice_get cs (length cs - 1)) logic.X

abbrev pub ends_at : ℕ → Option Change → Bool
ends_at time None = false
ends_at time (Some c) = nat_eq c.time time

-- without the change at this time, the last one if there is one
abbrev pub undone : ℕ → List Change → List Change
undone time cs = if ends_at time (slice_get cs (length cs - 1)) then take (length cs - 1) cs else cs

-- a change after others that aren't later: the last one at a time counts, where it changes the value
abbrev pub settled : List Change → Change → List Change
settled cs c = undone c.time cs ++ (if same c.value (value_after (undone c.time cs)) then [] else c ∷ [])
