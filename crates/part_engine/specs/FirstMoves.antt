-- What flip-flops begin with, as moves of their places.
use Rattle.std.specs.Prelude.{◌≡◌, ℕ, zero, suc, List, [], map}
use Rattle.gate_values.specs.declared.logic.Logic.TheVariants.{X}
use Rattle.gate_values.specs.Behaviour.{initial_of}
use Rattle.warp_stores.specs.Words.{Move}
use Rattle.warp_stores.specs.Lists.{words_at}
use Rattle.warp_gates.specs.Cells.{value_at}
use Rattle.place_moves.specs.Moves.{move_of}
use Rattle.warp_part.specs.Portion.{Portion}

-- at time 0 a place moves to what it begins with
abbrev pub first_move : Portion → ℕ → ℕ → List Move
first_move p zero place = move_of place X (value_at (map initial_of p.sources) place)
first_move p (suc time) place = []

-- of each place these words are its first move
abbrev pub AreFirstMoves : Portion → ℕ → List Move → Type 0
AreFirstMoves p time words = (place : ℕ) → words_at place words ≡ first_move p time place
