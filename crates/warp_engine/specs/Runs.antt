-- What an engine holds, what is true of it, and what its calls do.
use Rattle.std.specs.Prelude.{◌≡◌, ℕ, suc, ◌+◌, ◌<◌, ◌≤◌, List, length}
use Rattle.std.specs.List.{All, flat_map}
use Rattle.gate_values.specs.declared.logic.Logic.{Logic}
use Rattle.gate_values.specs.declared.logic.Logic.TheVariants.{X}
use Rattle.gate_values.specs.Behaviour.{Source, source_delay}
use Rattle.warp_stores.specs.Words.{Move}
use Rattle.warp_stores.specs.Dated.{Dated}
use Rattle.warp_stores.specs.Delays.{told_since}
use Rattle.place_moves.specs.Journals.{IsPlayed}
use Rattle.warp_journal.specs.Books.{Book, IsBrought, AreAlike, journal_of, all_of}

-- A journal, and the last time up to which changes count.
pub record Run : Type 0 where
  pub book : Book
  pub horizon : ℕ

-- The journal has played its sources over what they were given, and goes back as far as a floor.
pub record IsRun (source : ℕ → Source) (given : ℕ → ℕ → Logic) (floor : ℕ) (run : Run) : Type 0 where
  pub played : IsPlayed source given floor (journal_of run.book)
  pub low : floor ≤ run.book.mark

-- what a run has played: some sources over what they were given, from a floor on
pub record Ran (run : Run) : Type 0 where
  pub source : ℕ → Source
  pub given : ℕ → ℕ → Logic
  pub floor : ℕ
  pub is : IsRun source given floor run

-- what is made from a step on, at the times at which it comes true
abbrev pub makings : ℕ → Run → List (Dated Move)
makings step run = flat_map (told_since step run.horizon) (all_of run.book.queues)

-- words of places that there are, that come true later than a step, up to the horizon
abbrev pub AreLater : ℕ → Run → List (Dated Move) → Type 0
AreLater step run words = All (λ d. (d.1.place < length run.book.gates.cells) × (step < d.0) × (d.0 ≤ run.horizon)) words

-- words that sources made at a step or later, before the mark, each at the time at which it comes true: a delay after its step
abbrev pub AreMadeBy : (ℕ → Source) → ℕ → Run → List (Dated Move) → Type 0
AreMadeBy source step run words =
    All (λ d. (0 < source_delay (source d.1.place)) × (step + source_delay (source d.1.place) ≤ d.0) × (d.0 < run.book.mark + source_delay (source d.1.place))) words

-- up to a time nothing is brought to what a run has played, and then these words are
pub record MayRun (time : ℕ) (outside : List Move) (run : Run) : Type 0 where
  pub of : Ran run
  pub ahead : run.book.mark ≤ time
  pub brought : IsBrought of.source of.given run.book.mark time outside

-- the same horizon, and the same places
pub record IsLike (old new : Run) : Type 0 where
  pub alike : AreAlike old.book new.book
  pub horizon : new.horizon ≡ old.horizon

-- what a run has played of sources to which these words are brought, the other has
abbrev pub Follows : ℕ → List Move → Run → Run → Type 0
Follows time outside old new =
    (source : ℕ → Source) (given : ℕ → ℕ → Logic) (floor : ℕ) → IsRun source given floor old → IsBrought source given old.book.mark time outside → IsRun source given floor new

-- a time is played, and all before it
pub record HasRun (time : ℕ) (outside : List Move) (old new : Run) : Type 0 where
  pub mark : new.book.mark ≡ suc time
  pub like : IsLike old new
  pub follows : Follows time outside old new

-- no time more is played
pub record HasRested (time : ℕ) (outside : List Move) (old new : Run) : Type 0 where
  pub mark : new.book.mark ≡ old.book.mark
  pub like : IsLike old new
  pub follows : Follows time outside old new

-- A run can go back to a time: nothing of what it needs is forgotten.
pub record MayReturn (time : ℕ) (run : Run) : Type 0 where
  pub of : Ran run
  pub low : of.floor ≤ time
  pub high : time ≤ run.book.mark

-- All from a time on is taken back. What is given from then on may be something else.
pub record HasReturned (time : ℕ) (old new : Run) : Type 0 where
  pub mark : new.book.mark ≡ time
  pub like : IsLike old new
  pub anew : (source : ℕ → Source) (given given' : ℕ → ℕ → Logic) (floor : ℕ) → IsRun source given floor old → floor ≤ time
      → ((t place : ℕ) → t < time → given t place ≡ given' t place) → ((place t : ℕ) → length old.book.gates.cells ≤ place → given' t place ≡ X) → IsRun source given' floor new

-- what only a way back to times before one needs is forgotten
pub record HasDropped (time : ℕ) (old new : Run) : Type 0 where
  pub mark : new.book.mark ≡ old.book.mark
  pub gates : new.book.gates ≡ old.book.gates
  pub history : new.book.history ≡ old.book.history
  pub like : IsLike old new
  pub keeps : (source : ℕ → Source) (given : ℕ → ℕ → Logic) (floor : ℕ) → IsRun source given floor old → floor ≤ time → time ≤ old.book.mark → IsRun source given time new
