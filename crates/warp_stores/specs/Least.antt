-- The least of some times.
use Rattle.std.specs.Prelude.{ℕ, List, [], ◌∷◌, min}
use Rattle.warp_stores.specs.declared.least.TheConstants.{NEVER}

-- the least of some times, no time where there is none
abbrev pub least_of : List ℕ → ℕ
least_of [] = NEVER
least_of (t ∷ ts) = min t (least_of ts)
