-- What was put while places put out other values.
use Rattle.std.specs.Prelude.{◌≡◌, ℕ, ◌/◌, ◌%◌, ◌<◌, ◌≤◌, Bool, true, false, not, ◌&&◌, nat_lt, List, [], ◌++◌, length}
use Rattle.std.specs.List.{flat_map}
use Rattle.gate_values.specs.declared.logic.Logic.{Logic}
use Rattle.gate_values.specs.declared.logic.Logic.TheVariants.{X}
use Rattle.warp_stores.specs.Words.{Move}
use Rattle.warp_gates.specs.declared.front.Front.{Front}
use Rattle.warp_gates.specs.declared.front.TheConstants.{EDGES}
use Rattle.warp_gates.specs.declared.pins.TheConstants.{PINS}
use Rattle.warp_gates.specs.declared.put.Put.{Put}
use Rattle.warp_gates.specs.Cells.{Cell, Outside, Gate, Flop, cell_at, gate_output, puts_at, put_of}
use Rattle.warp_gates.specs.Inner.Fronts.{front_at, row_of, has, has_gate, inputs_of, is_narrow, AreFronts}

-- For each place that puts out another value than at first its change was put, and nothing else.
pub record AreTold (old now : List Front) (before out : List Put) : Type 0 where
  pub same : length now ≡ length old
  pub queues : (place : ℕ) (d : Front) → place < length old → (front_at d now place).queue ≡ (front_at d old place).queue
  pub sent : List Put
  pub appended : out ≡ before ++ sent
  pub each : (place : ℕ) (d : Front) → place < length old → puts_at place sent ≡ put_of place (front_at d old place).queue (front_at d old place).output (front_at d now place).output
  pub past : (place : ℕ) → length old ≤ place → puts_at place sent ≡ []

-- what a cell makes of values; unknown if it is no gate
abbrev pub cell_output : List Logic → Cell → Logic
cell_output values Outside = X
cell_output values (Gate kind inputs) = gate_output values kind inputs
cell_output values (Flop data_place clock) = X

-- the cell is a gate
abbrev pub is_gate : Cell → Bool
is_gate Outside = false
is_gate (Gate kind inputs) = true
is_gate (Flop data_place clock) = false

-- the cell is a flip-flop
abbrev pub is_flop : Cell → Bool
is_flop Outside = false
is_flop (Gate kind inputs) = false
is_flop (Flop data_place clock) = true

-- the place of a flip-flop's data
abbrev pub data_of : Cell → ℕ
data_of Outside = 0
data_of (Gate kind inputs) = 0
data_of (Flop data_place clock) = data_place

-- an edge to a gate, at a pin if it has few inputs
pub record IsEdge (cells : List Cell) (edge : ℕ) : Type 0 where
  pub gate : is_gate (cell_at cells (edge / EDGES)) ≡ true
  pub few : nat_lt (edge % EDGES) PINS ≡ is_narrow (inputs_of (cell_at cells (edge / EDGES)))

-- Gates are evaluated: each that is stale still puts out what it did at first.
pub record AreEvaluating (cells : List Cell) (values : List Logic) (old now : List Front) (before out : List Put) : Type 0 where
  pub fronts : AreFronts cells values now
  pub told : AreTold old now before out
  pub stale : (place : ℕ) (d : Front) → place < length old → (front_at d now place).is_stale ≡ true → (front_at d now place).output ≡ (front_at d old place).output

-- the gates of some edges are no more stale, and the other places are as they were
pub record AreRefreshed (edges : List ℕ) (old new : List Front) : Type 0 where
  pub same : length new ≡ length old
  pub stale : (place : ℕ) (d : Front) → place < length old → (front_at d new place).is_stale ≡ ((front_at d old place).is_stale && not (has_gate edges place))
  pub others : (place : ℕ) (d : Front) → place < length old → has_gate edges place ≡ false → front_at d new place ≡ front_at d old place

-- Of some edges one is listed to each place that is stale, and no other.
pub record AreListed (edges : List ℕ) (fronts : List Front) (stale : List ℕ) : Type 0 where
  pub some : (edge : ℕ) → has stale edge ≡ true → has edges edge ≡ true
  pub all : (place : ℕ) (d : Front) → place < length fronts → (front_at d fronts place).is_stale ≡ true → has_gate stale place ≡ true
  pub few : length stale ≤ length edges

-- the edges from the places of some words, one after the other
abbrev pub all_edges : List (List ℕ) → List Move → List ℕ
all_edges rows words = flat_map (λ w. row_of rows w.place) words
