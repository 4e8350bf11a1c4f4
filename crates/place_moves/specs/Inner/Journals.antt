-- What a journal of gates holds, and what is true of it at each moment.
use Rattle.std.specs.Prelude.{◌≡◌, ℕ, suc, ◌+◌, ◌≤◌, List}
use Rattle.std.specs.List.{AllByRecursion}
use Rattle.gate_values.specs.declared.logic.Logic.{Logic}
use Rattle.gate_values.specs.Behaviour.{Source}
use Rattle.warp_stores.specs.Words.{Move}
use Rattle.warp_stores.specs.Delays.{Delayed}
use Rattle.warp_stores.specs.Lists.{words_at}
use Rattle.place_moves.specs.Moves.{move_of, value_before}

-- what moves at a time: each place's words are its move
abbrev pub AreMoves : (ℕ → Source) → (ℕ → ℕ → Logic) → ℕ → List Move → Type 0
AreMoves source given time words = (place : ℕ) → words_at place words ≡ move_of place (value_before source given place time) (value_before source given place (suc time))

-- no word of some queues comes true before a time
abbrev pub IsDueFrom : ℕ → Delayed → Type 0
IsDueFrom time queue = AllByRecursion (λ d. time ≤ d.0 + queue.delay) queue.line.ahead
