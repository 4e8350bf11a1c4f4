-- Lists of numbers that lie in one.
use Rattle.std.specs.Prelude.{ℕ, zero, suc, List, [], ◌∷◌}

-- where the list at a place begins
abbrev pub start_at : ℕ → List ℕ → ℕ → ℕ
start_at start [] place = start
start_at start (e ∷ es) zero = start
start_at start (e ∷ es) (suc place) = start_at e es place
