-- What callers see of a round and of its seats, and what a round answers at its end.
use Rattle.std.specs.Prelude.{◌≡◌, ℕ, ◌<◌, min, Bool, false, List, [], length, fold, sum_by, All, Result, Ok, Err}
use Rattle.atomic_table.specs.Seated.{TableId}
use Rattle.warp_rounds.specs.declared.round.EndFault.{EndFault}
use Rattle.warp_rounds.specs.declared.round.EndFault.TheVariants.{WrongSeats, Undrawn}
use Rattle.warp_rounds.specs.Words.{never, times_in, once_below}

-- which round it is, and its number of blocks
pub record RoundId : Type 0 where
  pub table : TableId
  pub blocks : ℕ

-- a round and its number of seats
pub record RoundView : Type 0 where
  pub round : RoundId
  pub seats : ℕ

-- the blocks that a seat drew, the least time that it reported, and whether it was answered that no block is left
pub record SeatView : Type 0 where
  pub round : RoundId
  pub draws : List ℕ
  pub least : ℕ
  pub marked : Bool

abbrev pub empty_seat : RoundId → SeatView
empty_seat round = record { round = round; draws = []; least = never; marked = false }

-- how often the seats drew the block x
abbrev pub drawn_times : ℕ → List SeatView → ℕ
drawn_times x seats = sum_by (λ s. times_in x s.draws) seats

-- the draws of all seats together are the numbers below n, each once
abbrev pub AreAllDrawn : List SeatView → ℕ → Type 0
AreAllDrawn seats n = (x : ℕ) → drawn_times x seats ≡ once_below x n

-- a block below n is in no seat's draws
abbrev pub IsOneUndrawn : List SeatView → ℕ → Type 0
IsOneUndrawn seats n = (x : ℕ) × (x < n) × (drawn_times x seats ≡ 0)

-- the least time that a seat reported, `never` if there is none
abbrev pub least_of : List SeatView → ℕ
least_of seats = fold (λ time s. min time s.least) never seats

abbrev pub IsUnmarked : SeatView → Type 0
IsUnmarked s = s.marked ≡ false

-- what a round answers where these of its seats are handed in
abbrev pub IsEnd : RoundView → List SeatView → Result ℕ EndFault → Type 0
IsEnd r seats (Ok time) = (length seats ≡ r.seats) × AreAllDrawn seats r.round.blocks × (time ≡ least_of seats)
IsEnd r seats (Err WrongSeats) = length seats < r.seats
IsEnd r seats (Err Undrawn) = (length seats ≡ r.seats) × IsOneUndrawn seats r.round.blocks × All IsUnmarked seats
