-- Times that are passed on the way to one.
use Rattle.std.specs.Prelude.{ℕ, ◌<◌, ◌≤◌, List, []}
use Rattle.gate_values.specs.declared.logic.Logic.{Logic}
use Rattle.gate_values.specs.Behaviour.{Source}
use Rattle.warp_stores.specs.Words.{Move}
use Rattle.warp_stores.specs.Delays.{least_due}
use Rattle.place_moves.specs.Journals.{IsPlayed, AreBrought}
use Rattle.warp_journal.specs.Books.{Book, Played, AreAlike, Keeps, all_of, journal_of}

-- nothing is brought from outside before a time
abbrev pub IsStill : (ℕ → Source) → (ℕ → ℕ → Logic) → ℕ → ℕ → Type 0
IsStill source given from time = (t : ℕ) → from ≤ t → t < time → AreBrought source given t []

-- up to a time nothing is brought to what a book has played
pub record MayPass (time : ℕ) (book : Book) : Type 0 where
  pub of : Played book
  pub ahead : book.mark ≤ time
  pub still : IsStill of.source of.given book.mark time

-- nothing in queues comes true before a time
abbrev pub IsDueFrom : ℕ → Book → Type 0
IsDueFrom time book = time ≤ least_due (all_of book.queues)

-- some times up to one are played
pub record HasPassed (time : ℕ) (old new : Book) : Type 0 where
  pub from : old.mark ≤ new.mark
  pub to : new.mark ≤ time
  pub alike : AreAlike old new
  pub each : (source : ℕ → Source) (given : ℕ → ℕ → Logic) (floor : ℕ) → IsPlayed source given floor (journal_of old) → IsStill source given old.mark time → IsPlayed source given floor (journal_of new)

-- some times up to one, and perhaps that one, are played
pub record HasPlayedSome (time : ℕ) (outside : List Move) (old new : Book) : Type 0 where
  pub from : old.mark ≤ new.mark
  pub keeps : Keeps time outside old new
