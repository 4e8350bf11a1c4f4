-- Lists of numbers that lie in one.
use Rattle.std.specs.Prelude.{ℕ, ◌≡◌, ◌≤◌, List, [], ◌∷◌}
use Rattle.std.specs.List.{between}

-- the lists, each from the end of the one before
abbrev pub rows_from : ℕ → List ℕ → List ℕ → List (List ℕ)
rows_from start [] numbers = []
rows_from start (e ∷ es) numbers = between start e numbers ∷ rows_from e es numbers

-- no end is before the one before, and the last is that of all numbers
abbrev pub AreEnds : ℕ → List ℕ → ℕ → Type 0
AreEnds start [] count = start ≡ count
AreEnds start (e ∷ es) count = (start ≤ e) × AreEnds e es count
