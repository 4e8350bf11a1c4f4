-- What is brought to places at a time.
use Rattle.std.specs.Prelude.{ℕ, Option, Some, None, List, []}
use Rattle.gate_values.specs.declared.logic.Logic.{Logic}
use Rattle.warp_stores.specs.Words.{Move}
use Rattle.warp_gates.specs.Cells.{value_at}
use Rattle.place_moves.specs.Moves.{move_of}
use Rattle.warp_part.specs.Placing.{net_of_place}
use Rattle.warp_process.specs.Entries.{effective_of}
use Rattle.warp_process.specs.Rows.{Standing}
use Rattle.warp_process.specs.View.{View, effective_at}

-- a place moves to what it takes, where it takes something
abbrev pub move_to : ℕ → Logic → Option Logic → List Move
move_to place from None = []
move_to place from (Some to) = move_of place from to

-- a place moves from its value to the effective one at a time
abbrev pub heard_move : View → List Logic → ℕ → ℕ → List Move
heard_move v values time place = move_to place (value_at values place) (effective_at v (net_of_place v.part place) time)

-- the place of an entry moves from its value to the effective one
abbrev pub standing_move : List Logic → Standing → List Move
standing_move values s = move_to s.place (value_at values s.place) (effective_of s.entry)
