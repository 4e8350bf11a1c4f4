-- What a step does to queues, and how a step is taken back.
use Rattle.std.specs.Prelude.{◌≡◌, ℕ, ◌≤◌, List, [], ◌∷◌, length, map, slice_set}
use Rattle.warp_stores.specs.Words.{Move}
use Rattle.warp_stores.specs.Dated.{last_time, standing}
use Rattle.warp_stores.specs.Delays.{Delayed, queue_at, with_made, read_by}
use Rattle.warp_stores.specs.Lists.{words_at}
use Rattle.warp_gates.specs.Cells.{Gates, value_at, cell_at, unmoved}
use Rattle.warp_gates.specs.declared.put.Put.{Put}
use Rattle.place_moves.specs.Moves.{first_before}
use Rattle.place_moves.specs.Journals.{put_into, output_back}
use Rattle.warp_journal.specs.Books.{Parts, all_of}

-- the words that are put
abbrev pub words_of : List Put → List Move
words_of puts = map (λ (p : Put). p.word) puts

-- what is due by a time is read
abbrev pub AreRead : ℕ → Parts → Parts → Type 0
AreRead time old new = new ≡ record { read = map (read_by time) old.read; unread = map (read_by time) old.unread }

-- no queue has a word of a later step
abbrev pub AreUpTo : ℕ → List Delayed → Type 0
AreUpTo step queues = (number : ℕ) → last_time (standing (queue_at queues number).line) ≤ step

-- as many queues in each part
pub record AreAsMany (old new : Parts) : Type 0 where
  pub read : length new.read ≡ length old.read
  pub unread : length new.unread ≡ length old.unread

-- a word is put behind its queue
pub record IsPut (step : ℕ) (put : Put) (old new : Parts) : Type 0 where
  pub many : AreAsMany old new
  pub behind : all_of new ≡ slice_set (all_of old) put.queue (with_made step (put.word ∷ []) (queue_at (all_of old) put.queue))

-- words are put behind their queues
pub record ArePutBehind (step : ℕ) (puts : List Put) (old new : Parts) : Type 0 where
  pub many : AreAsMany old new
  pub each : (number : ℕ) → queue_at (all_of new) number ≡ with_made step (put_into number puts) (queue_at (all_of old) number)

-- some words of a step were put behind queues
pub record AreSomePut (step : ℕ) (old new : Parts) : Type 0 where
  pub puts : List Put
  pub behind : ArePutBehind step puts old new

-- all that is due is read, and words are put behind their queues
pub record AreStepped (step : ℕ) (puts : List Put) (old new : Parts) : Type 0 where
  pub many : AreAsMany old new
  pub each : (number : ℕ) → queue_at (all_of new) number ≡ with_made step (put_into number puts) (read_by step (queue_at (all_of old) number))

-- the same of some of the words
pub record AreHalfStepped (step : ℕ) (old new : Parts) : Type 0 where
  pub puts : List Put
  pub stepped : AreStepped step puts old new

-- words are taken back from gates, and words that were put are given back
pub record AreTakenBack (words puts : List Move) (old new : Gates) : Type 0 where
  pub cells : new.cells ≡ old.cells
  pub numbers : new.queues ≡ old.queues
  pub values : new.values ≡ unmoved words old.values
  pub outputs : (place : ℕ) → value_at new.outputs place
      ≡ output_back new.values (cell_at old.cells place) (first_before (value_at old.outputs place) (words_at place puts)) (value_at old.outputs place)
