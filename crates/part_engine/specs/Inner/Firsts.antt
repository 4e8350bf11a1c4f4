-- What places begin with.
use Rattle.std.specs.Prelude.{ℕ, Bool, not, ◌&&◌, get_or}
use Rattle.gate_values.specs.declared.logic.Logic.TheVariants.{X}
use Rattle.gate_values.specs.Behaviour.{Outside, initial_of}
use Rattle.gate_values.specs.Changes.{same}
use Rattle.warp_part.specs.Portion.{Portion, is_used}
use Rattle.warp_part.specs.Placing.{net_of_place}

-- a gate reads the net of a place, and it begins with a known value
abbrev pub begins_at : Portion → ℕ → Bool
begins_at p i = is_used p (net_of_place p i) && not (same (initial_of (get_or p.sources i Outside)) X)
