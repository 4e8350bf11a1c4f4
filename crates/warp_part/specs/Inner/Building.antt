-- What the building of a part says, net by net.
use Rattle.std.specs.Prelude.{◌≡◌, ℕ, ◌<◌, Bool, ◌&&◌, ◌++◌, ◌==◌, not, List, length, get_or}
use Rattle.std.specs.List.{list_any, All}
use Rattle.gate_values.specs.Behaviour.{Source}
use Rattle.gate_netlist.specs.Circuit.{Design, driver_of, source_by, is_input}
use Rattle.gate_netlist.specs.Cut.{Ownership}
use Rattle.gate_netlist.specs.declared.driver.Driver.{Driver}
use Rattle.warp_part.specs.declared.cell.Cell.{Cell}
use Rattle.warp_part.specs.Inner.HeldPart.{CellFits}
use Rattle.warp_part.specs.Shown.Part.{cell_source, is_input_cell}
use Rattle.warp_part.specs.PartOf.{is_own, part_source}
use Rattle.warp_part.specs.Portion.{uses}

-- the nets that a driver uses
abbrev pub driver_uses : Driver → List ℕ
driver_uses driver = uses (source_by driver 1)

-- the list has the number
abbrev pub has : List ℕ → ℕ → Bool
has xs n = list_any (λ x. x == n) xs

-- one of some gates uses the net
abbrev pub is_used_among : Design → List ℕ → ℕ → Bool
is_used_among d gates n = list_any (λ g. has (driver_uses (driver_of d g)) n) gates

-- a cell says what sets a net, and whether it is an input of the circuit
pub record IsCell (nets pins : List ℕ) (sets : Source) (outer : Bool) (cell : Cell) : Type 0 where
  pub fits : CellFits (length nets) (length pins) cell
  pub source : cell_source nets pins cell ≡ sets
  pub input : is_input_cell cell ≡ outer

-- some pins more, each a place among so many nets
pub record HasMore (nets : ℕ) (old new : List ℕ) : Type 0 where
  pub more : List ℕ
  pub added : new ≡ old ++ more
  pub places : All (λ pin. pin < nets) more

-- the cells of the first nets
pub record AreCells (d : Design) (cut : Ownership) (b : ℕ) (nets pins : List ℕ) (cells : List Cell) : Type 0 where
  pub each : (i : ℕ) (e : Cell) → i < length cells → IsCell nets pins (part_source d cut b (get_or nets i 0)) (is_input (driver_of d (get_or nets i 0))) (get_or cells i e)
  pub places : All (λ pin. pin < length nets) pins

-- a block other than this one that owns one of some gates
abbrev pub is_other_owner : Ownership → ℕ → List ℕ → ℕ → Bool
is_other_owner cut b gates c = not (c == b) && list_any (is_own cut c) gates
