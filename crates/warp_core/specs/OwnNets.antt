-- The own nets of a part, place by place.
use Rattle.std.specs.Prelude.{◌≡◌, ℕ, if◌then◌else◌, Option, Some, None, List, get_or}
use Rattle.gate_values.specs.Behaviour.{Outside}
use Rattle.warp_part.specs.Portion.{Portion, is_driven}

-- of each place its net, if the part owns it
abbrev pub AreOwn : Portion → List (Option ℕ) → Type 0
AreOwn p own = (place : ℕ) → get_or own place None ≡ (if is_driven (get_or p.sources place Outside) then Some (get_or p.nets place 0) else None)
