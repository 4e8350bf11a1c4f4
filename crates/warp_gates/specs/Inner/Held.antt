-- How gates lie in lists.
use Rattle.std.specs.Prelude.{◌≡◌, ℕ, ◌<◌, ◌≤◌, List, length}
use Rattle.std.specs.List.{All}
use Rattle.gate_values.specs.declared.logic.Logic.{Logic}
use Rattle.warp_stores.specs.declared.word.TheConstants.{PLACES}
use Rattle.warp_gates.specs.declared.front.Front.{Front}
use Rattle.warp_gates.specs.Cells.{Cell, IsCell, cell_at, next_output}
use Rattle.warp_gates.specs.Inner.Fronts.{front_at, AreFronts, AreSettled, AreReaders, AreClocked}

-- what is true of gates as they lie: their cells, what is at hand of each place, the values, and who reads each place
pub record AreHeld (cells : List Cell) (at_hand : List Front) (held : List Logic) (rows flops : List (List ℕ)) : Type 0 where
  pub few : length cells ≤ PLACES
  pub closed : All (IsCell (length cells)) cells
  pub values : length held ≡ length cells
  pub fronts : AreFronts cells held at_hand
  pub settled : AreSettled at_hand
  pub readers : AreReaders cells rows
  pub clocked : AreClocked cells flops

-- each place puts out what it is to put out next
pub record ArePassedOn (cells : List Cell) (before now : List Logic) (old new : List Front) : Type 0 where
  pub same : length new ≡ length old
  pub next : (place : ℕ) (d : Front) → place < length cells → (front_at d new place).output ≡ next_output before now (cell_at cells place) (front_at d old place).output
