-- What a journal holds, what its calls may ask, and what they do.
use Rattle.std.specs.Prelude.{◌≡◌, ℕ, suc, ◌<◌, ◌≤◌, List, [], ◌++◌, map, length, replicate}
use Rattle.gate_values.specs.declared.logic.Logic.{Logic}
use Rattle.gate_values.specs.declared.logic.Logic.TheVariants.{X}
use Rattle.gate_values.specs.Behaviour.{Source}
use Rattle.warp_stores.specs.Words.{Move}
use Rattle.warp_stores.specs.Dated.{Dated}
use Rattle.warp_stores.specs.Delays.{Delayed, empty_after}
use Rattle.warp_gates.specs.Cells.{Cell, Gates, value_at, cell_at, first_output}
use Rattle.place_moves.specs.Journals.{Journal, IsPlayed, AreBrought, IsBack, HasForgotten}

-- queues in two parts: of places that gates read, and of places that none does
pub record Parts : Type 0 where
  pub read : List Delayed
  pub unread : List Delayed

-- all of them, by their numbers
abbrev pub all_of : Parts → List Delayed
all_of parts = parts.read ++ parts.unread

-- A journal with its queues in two parts.
pub record Book : Type 0 where
  pub mark : ℕ
  pub gates : Gates
  pub queues : Parts
  pub history : List (Dated Move)

abbrev pub journal_of : Book → Journal
journal_of book = record { mark = book.mark; gates = book.gates; queues = all_of book.queues; history = book.history }

-- the same places, with the same queues' numbers, and as many queues
pub record AreAlike (old new : Book) : Type 0 where
  pub cells : new.gates.cells ≡ old.gates.cells
  pub numbers : new.gates.queues ≡ old.gates.queues
  pub read : length new.queues.read ≡ length old.queues.read
  pub unread : length new.queues.unread ≡ length old.queues.unread

-- what a book has played: some sources over what they were given, from a floor on
pub record Played (book : Book) : Type 0 where
  pub source : ℕ → Source
  pub given : ℕ → ℕ → Logic
  pub floor : ℕ
  pub is : IsPlayed source given floor (journal_of book)

-- nothing is brought from outside up to a time, and then some words are
pub record IsBrought (source : ℕ → Source) (given : ℕ → ℕ → Logic) (from time : ℕ) (outside : List Move) : Type 0 where
  pub still : (t : ℕ) → from ≤ t → t < time → AreBrought source given t []
  pub brought : AreBrought source given time outside

-- up to a time nothing is brought to what a book has played, and then these words are
pub record MayPlay (time : ℕ) (outside : List Move) (book : Book) : Type 0 where
  pub of : Played book
  pub ahead : book.mark ≤ time
  pub brought : IsBrought of.source of.given book.mark time outside

-- what a book has played of sources to which these words are brought, the other has
pub record Keeps (time : ℕ) (outside : List Move) (old new : Book) : Type 0 where
  pub alike : AreAlike old new
  pub each : (source : ℕ → Source) (given : ℕ → ℕ → Logic) (floor : ℕ) → IsPlayed source given floor (journal_of old) → IsBrought source given old.mark time outside → IsPlayed source given floor (journal_of new)

-- a time is played, and all before it
pub record HasPlayed (time : ℕ) (outside : List Move) (old new : Book) : Type 0 where
  pub mark : new.mark ≡ suc time
  pub keeps : Keeps time outside old new

-- no time more is played
pub record HasStayed (time : ℕ) (outside : List Move) (old new : Book) : Type 0 where
  pub mark : new.mark ≡ old.mark
  pub keeps : Keeps time outside old new

-- a time that was played, and that isn't forgotten
pub record MayGoBack (time : ℕ) (book : Book) : Type 0 where
  pub of : Played book
  pub low : of.floor ≤ time
  pub high : time ≤ book.mark

pub record HasGoneBack (time : ℕ) (old new : Book) : Type 0 where
  pub alike : AreAlike old new
  pub back : IsBack time (journal_of old) (journal_of new)

pub record HasLostBelow (time : ℕ) (old new : Book) : Type 0 where
  pub alike : AreAlike old new
  pub forgotten : HasForgotten time (journal_of old) (journal_of new)

-- a journal of these places, with these queues' numbers and delays, that has played nothing
pub record IsNew (wiring : List Cell) (numbering read_delays unread_delays : List ℕ) (contents : List Logic) (book : Book) : Type 0 where
  pub mark : book.mark ≡ 0
  pub cells : book.gates.cells ≡ wiring
  pub numbers : book.gates.queues ≡ numbering
  pub values : book.gates.values ≡ replicate (length wiring) X
  pub outputs : (place : ℕ) → value_at book.gates.outputs place ≡ first_output (cell_at wiring place) (value_at contents place)
  pub read : book.queues.read ≡ map empty_after read_delays
  pub unread : book.queues.unread ≡ map empty_after unread_delays
  pub history : book.history ≡ []
