-- What the fields of a round and of a seat keep, and how the seats are taken in at the end.
use Rattle.std.specs.Prelude.{◌≡◌, ℕ, ◌+◌, ◌≤◌, min, List, [], length, fold, cond, sum_by}
use Rattle.atomic_table.specs.Seated.{TableId}
use Rattle.warp_rounds.specs.declared.hand.Hand.{Hand}
use Rattle.warp_rounds.specs.declared.round.Round.TheInside as round
use Rattle.warp_rounds.specs.declared.round.RoundSeat.TheInside as seat
use Rattle.warp_rounds.specs.Words.{never, times_in}
use Rattle.warp_rounds.specs.Seats.{SeatView, drawn_times, least_of}

pub record IsKept (r : round.Inside) : Type 0 where
  pub words : r.table.shared.table_id.words ≡ 2
  pub slots : r.table.shared.table_id.slots ≡ 0
  pub blocks : r.table.shared.key.blocks ≡ r.blocks
  pub seats : r.table.shared.key.seats ≡ r.seats

pub record IsSeat (s : seat.Inside) : Type 0 where
  pub one : s.seat.me.0.shares ≡ 1
  pub marks : s.seat.me.0.marks ≡ cond s.marked 1 0
  pub no_slot : s.seat.me.1 ≡ []

abbrev pub IsOfTable : TableId → SeatView → Type 0
IsOfTable table s = s.round.table ≡ table

-- how many of the seats are marked
abbrev pub marks_of : List SeatView → ℕ
marks_of seats = sum_by (λ s. cond s.marked 1 0) seats

-- what the hand has taken in, and what the rest of the seats still have, are what all the seats have
pub record IsTakenIn (h : Hand) (rest all : List SeatView) : Type 0 where
  pub shares : h.shares + length rest ≡ length all
  pub marks : h.marks + marks_of rest ≡ marks_of all
  pub draws : (x : ℕ) → times_in x h.draws + drawn_times x rest ≡ drawn_times x all
  pub least : fold (λ time s. min time s.least) h.least rest ≡ least_of all
  pub timed : h.least ≤ never
