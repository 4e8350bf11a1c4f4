-- When a place that gates read moves next.
use Rattle.std.specs.Prelude.{◌≡◌, ◌⊎◌, ℕ, suc, ◌<◌, ◌≤◌, List, [], ◌∷◌, length}
use Rattle.gate_values.specs.declared.logic.Logic.{Logic}
use Rattle.gate_values.specs.Behaviour.{Source, source_delay}
use Rattle.gate_values.specs.Behaviour as behaviour
use Rattle.warp_gates.specs.Cells.{Cell, Outside, Gate, Flop, cell_at}
use Rattle.place_moves.specs.Moves.{value_before}
use Rattle.place_moves.specs.Journals.{queue_of}
use Rattle.warp_journal.specs.Books.{Book}

-- a place is among some
abbrev pub IsIn : ℕ → List ℕ → Type 0
IsIn place [] = ⊥
IsIn place (p ∷ ps) = (place ≡ p) ⊎ IsIn place ps

-- a cell reads a place
abbrev pub IsPin : ℕ → Cell → Type 0
IsPin place Outside = ⊥
IsPin place (Gate kind inputs) = IsIn place inputs
IsPin place (Flop data_place clock) = (place ≡ data_place) ⊎ (place ≡ clock)

-- a gate or a flip-flop reads a place
abbrev pub IsUsed : List Cell → ℕ → Type 0
IsUsed cells place = (gate : ℕ) × IsPin place (cell_at cells gate)

-- The places that are read put out into the queues that stand first, and no others do.
pub record AreParted (source : ℕ → Source) (book : Book) : Type 0 where
  pub used : (place : ℕ) → IsUsed book.gates.cells place → 0 < source_delay (source place) → queue_of book.gates place < length book.queues.read
  pub first : (place : ℕ) → 0 < source_delay (source place) → queue_of book.gates place < length book.queues.read → IsUsed book.gates.cells place

-- a place shows the same at a time as just before
abbrev pub IsStill : (ℕ → Source) → (ℕ → ℕ → Logic) → ℕ → ℕ → Type 0
IsStill source given place time = value_before source given place (suc time) ≡ value_before source given place time

-- Nothing that is read moves from outside, from a mark on and before a time; and nothing that begins at time 0, where that is
-- the mark.
pub record IsLeftAlone (source : ℕ → Source) (given : ℕ → ℕ → Logic) (cells : List Cell) (mark time : ℕ) : Type 0 where
  pub outside : (place t : ℕ) → IsUsed cells place → source place ≡ behaviour.Outside → mark ≤ t → t < time → IsStill source given place t
  pub beginning : (place : ℕ) → IsUsed cells place → mark ≡ 0 → 0 < time → IsStill source given place 0
