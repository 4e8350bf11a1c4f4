-- The places of a portion: each stands for the net of its number.
use Rattle.std.specs.Prelude.{ℕ, nat_lt, if◌then◌else◌, List, map, length, get_or}
use Rattle.gate_values.specs.declared.logic.Logic.{Logic}
use Rattle.gate_values.specs.declared.logic.Logic.TheVariants.{X}
use Rattle.gate_values.specs.Behaviour.{Source, Outside, Gate, Flop}
use Rattle.warp_gates.specs.Cells as cells
use Rattle.warp_gates.specs.Cells.{Cell}
use Rattle.warp_part.specs.Portion.{Portion}
use Rattle.warp_part.specs.Shown.Building.{place_of}

abbrev pub net_of_place : Portion → ℕ → ℕ
net_of_place p i = get_or p.nets i 0

-- a source over places
abbrev pub placed : List ℕ → Source → Source
placed nets Outside = Outside
placed nets (Gate kind delay inputs) = Gate kind delay (map (place_of nets) inputs)
placed nets (Flop delay data_net clock initial) = Flop delay (place_of nets data_net) (place_of nets clock) initial

abbrev pub place_source : Portion → ℕ → Source
place_source p i = placed p.nets (get_or p.sources i Outside)

-- what sets a place
abbrev pub cell_by : List ℕ → Source → Cell
cell_by nets Outside = cells.Outside
cell_by nets (Gate kind delay inputs) = cells.Gate kind (map (place_of nets) inputs)
cell_by nets (Flop delay data_net clock initial) = cells.Flop (place_of nets data_net) (place_of nets clock)

abbrev pub place_cells : Portion → List Cell
place_cells p = map (cell_by p.nets) p.sources

-- what is given to places; past them nothing is
abbrev pub place_given : Portion → (ℕ → ℕ → Logic) → ℕ → ℕ → Logic
place_given p given t i = if nat_lt i (length p.nets) then given t (net_of_place p i) else X
