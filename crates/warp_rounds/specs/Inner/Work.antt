-- What the workers of a round have done, and whose round a seat, and a worker, is of.
use Rattle.std.specs.Prelude.{◌≡◌, ℕ, ◌<◌, ◌≤◌, ◌*◌, min, true, List, [], length, fold, Option, Some, None}
use Rattle.std.specs.List.{All, Any}
use Rattle.warp_process.specs.declared.message.Message.{Message}
use Rattle.warp_process.specs.declared.fault.BlockFault.TheVariants.{WrongNet}
use Rattle.warp_rounds.specs.declared.fault.RunFault.{RunFault}
use Rattle.warp_rounds.specs.declared.fault.RunFault.TheVariants.{Block, Stalled, Gather, NoThread, Memory}
use Rattle.warp_rounds.specs.Words.{never}
use Rattle.warp_rounds.specs.Seats.{RoundId, SeatView, empty_seat}
use Rattle.warp_rounds.specs.Visit.{IsVisit}
use Rattle.warp_rounds.specs.Runs.{IsStall, IsBlockFault}
use Rattle.warp_rounds.specs.declared.work.Worker.{Worker}

-- ---- delivering

abbrev pub AreThere : ℕ → List Message → Type 0
AreThere blocks messages = All (λ m. m.block < blocks) messages

-- why messages are not delivered: one is for none of so many blocks, or memory is wanting
abbrev pub IsUndelivered : ℕ → List Message → RunFault → Type 0
IsUndelivered blocks messages (Block fault) = (fault ≡ WrongNet) × Any (λ m. blocks ≤ m.block) messages
IsUndelivered blocks messages Memory = Unit {0}
IsUndelivered blocks messages _ = ⊥

-- ---- a worker's round

-- what a visit sent, and the least time that it told
pub record Visited : Type 0 where
  pub sent : List Message
  pub least : ℕ

abbrev pub IsVisited : ℕ → ℕ → Visited → Type 0
IsVisited floor window v = IsVisit floor window [] v.sent v.least

-- a time, lowered to what each of some visits told
abbrev pub lowered : ℕ → List Visited → ℕ
lowered time visits = fold (λ t v. min t v.least) time visits

-- the least time that visits told, `never` if there is none
abbrev pub least_told : List Visited → ℕ
least_told visits = lowered never visits

-- Some visits, one at least, and the least time that they told.
pub record AreVisits (floor window least : ℕ) : Type 0 where
  pub visits : List Visited
  pub some : 0 < length visits
  pub made : All (IsVisited floor window) visits
  pub told : (time : ℕ) → lowered time visits ≡ min time least

-- A seat of the round whose worker made these visits, and reported the time that each told.
pub record HasVisited (round : RoundId) (floor window : ℕ) (s : SeatView) (visits : List Visited) : Type 0 where
  pub ours : s.round ≡ round
  pub made : All (IsVisited floor window) visits
  pub told : s.least ≡ least_told visits

-- the worker made a visit for each block that its seat drew, if not more
pub record HasPlayed (round : RoundId) (floor window : ℕ) (s : SeatView) : Type 0 where
  pub visits : List Visited
  pub visited : HasVisited round floor window s visits
  pub each : length s.draws ≤ length visits

-- a worker that has done nothing yet in a round
pub record IsReady (round : RoundId) (w : Worker) : Type 0 where
  pub seat : w.seat ≡ empty_seat round
  pub well : w.fault ≡ None

-- a fault that ends a worker's round
abbrev pub IsWorkFault : ℕ → ℕ → ℕ → RunFault → Type 0
IsWorkFault blocks floor window (Block fault) = IsBlockFault blocks floor window fault
IsWorkFault blocks floor window Memory = Unit {0}
IsWorkFault blocks floor window _ = ⊥

-- a seat that is no more needed: no block is left, and its worker made a visit for each that it drew
abbrev pub IsPlayedOut : RoundId → ℕ → ℕ → SeatView → Type 0
IsPlayedOut round floor window s = HasPlayed round floor window s × (s.marked ≡ true)

-- A worker's round over so many blocks is over: by a fault, or since none is left to be drawn, and then it has made a visit for
-- each one that it drew.
abbrev pub IsOver : ℕ → RoundId → ℕ → ℕ → SeatView → Option RunFault → Type 0
IsOver blocks round floor window s None = IsPlayedOut round floor window s
IsOver blocks round floor window s (Some fault) = (s.round ≡ round) × IsWorkFault blocks floor window fault

abbrev pub HasWorked : ℕ → RoundId → ℕ → ℕ → Worker → Type 0
HasWorked blocks round floor window w = IsOver blocks round floor window w.seat w.fault

-- ---- a round

-- A round that goes over so many blocks some times.
pub record HasLaps (blocks : ℕ) (round : RoundId) : Type 0 where
  pub laps : ℕ
  pub each : round.blocks ≡ blocks * laps

-- a fault of a round of so many workers over so many blocks
abbrev pub IsRoundFault : ℕ → ℕ → ℕ → ℕ → RunFault → Type 0
IsRoundFault blocks workers floor window (Block fault) = IsBlockFault blocks floor window fault
IsRoundFault blocks workers floor window (Stalled time) = (time ≡ floor) × IsStall floor window
IsRoundFault blocks workers floor window (Gather fault) = ⊥
IsRoundFault blocks workers floor window NoThread = 1 < workers
IsRoundFault blocks workers floor window Memory = Unit {0}

-- a fault of one of the rounds of a run, at a floor up to the horizon, of at most so many workers
pub record IsRoundsFault (blocks horizon workers window : ℕ) (fault : RunFault) : Type 0 where
  pub floor : ℕ
  pub seats : ℕ
  pub within : floor ≤ horizon
  pub few : seats ≤ workers
  pub met : IsRoundFault blocks seats floor window fault
