-- An engine that has played nothing.
use Rattle.std.specs.Prelude.{◌≡◌, ℕ, ◌<◌, List, length, get_or}
use Rattle.gate_values.specs.declared.logic.Logic.{Logic}
use Rattle.gate_values.specs.Behaviour.{Source, source_delay, initial_of}
use Rattle.warp_gates.specs.Cells.{Cell, value_at, cell_at}
use Rattle.place_moves.specs.Journals.{IsSetBy}
use Rattle.warp_journal.specs.Books.{IsNew}
use Rattle.warp_engine.specs.Runs.{Run}

-- a run over a new journal
pub record IsOpened (wiring : List Cell) (numbering read_delays unread_delays : List ℕ) (contents : List Logic) (last : ℕ) (run : Run) : Type 0 where
  pub book : IsNew wiring numbering read_delays unread_delays contents run.book
  pub horizon : run.horizon ≡ last

-- Cells stand for sources, each puts out into a queue of its source's delay, and begins with what its source does.
pub record DoSuit (source : ℕ → Source) (wiring : List Cell) (numbering lengths : List ℕ) (firsts : List Logic) : Type 0 where
  pub sources : (place : ℕ) → IsSetBy (cell_at wiring place) (source place)
  pub within : (place : ℕ) → 0 < source_delay (source place) → get_or numbering place 0 < length lengths
  pub delays : (place : ℕ) → 0 < source_delay (source place) → get_or lengths (get_or numbering place 0) 0 ≡ source_delay (source place)
  pub contents : (place : ℕ) → value_at firsts place ≡ initial_of (source place)
