-- What the building of a part says, net by net.
use Rattle.std.specs.Prelude.{ℕ, List, unwrap_or}
use Rattle.warp_part.specs.Portion.{slot_of}

-- the place of a net that is among others
abbrev pub place_of : List ℕ → ℕ → ℕ
place_of nets n = unwrap_or (slot_of nets n) 0
