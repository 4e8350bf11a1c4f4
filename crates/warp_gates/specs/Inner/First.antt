-- What is kept of each place at first, and how who reads it is found.
use Rattle.std.specs.Prelude.{◌≡◌, ℕ, ◌<◌, ◌%◌, ◌/◌, ◌⊎◌, true, false, ◌&&◌, nat_lt, if◌then◌else◌, Option, Some, None, List, length, get_or, replicate}
use Rattle.std.specs.List.{All}
use Rattle.gate_values.specs.declared.logic.Logic.{Logic}
use Rattle.gate_values.specs.declared.logic.Logic.TheVariants.{X}
use Rattle.gate_values.specs.declared.gate.Kind.{Kind}
use Rattle.number_groups.specs.declared.groups.Keyed.{Keyed}
use Rattle.number_groups.specs.Groups.{group}
use Rattle.warp_gates.specs.declared.front.Front.{Front}
use Rattle.warp_gates.specs.declared.front.TheConstants.{EDGES}
use Rattle.warp_gates.specs.Cells.{Cell, Outside, Gate, Flop, value_at, cell_at, first_output}
use Rattle.warp_gates.specs.Inner.Fronts.{front_at, neutral, inputs_of, edge_of, pin_of, has, is_clocked_by, IsShowing}

-- values of so many places, none of them known
abbrev pub unknown : ℕ → List Logic
unknown n = replicate n X

-- the value at a pin of a gate with so many inputs
abbrev pub first_pin : Kind → ℕ → ℕ → Logic
first_pin kind inputs pin = if nat_lt pin inputs then X else neutral kind

-- what is kept of a place at first
pub record IsFirst (cell : Cell) (number : ℕ) (content : Logic) (front : Front) : Type 0 where
  pub queue : front.queue ≡ number
  pub output : front.output ≡ first_output cell content
  pub fresh : front.is_stale ≡ false
  pub showing : (n : ℕ) → IsShowing (unknown n) cell front

-- what is kept of the first places
pub record AreFirst (cells : List Cell) (queues : List ℕ) (contents : List Logic) (count : ℕ) (fronts : List Front) : Type 0 where
  pub many : length fronts ≡ count
  pub each : (place : ℕ) (d : Front) → place < count → IsFirst (cell_at cells place) (get_or queues place 0) (value_at contents place) (front_at d fronts place)

-- the kind of a gate
abbrev pub kind_of : Cell → Option Kind
kind_of Outside = None
kind_of (Gate kind inputs) = Some kind
kind_of (Flop data_place clock) = None

-- the clock of a flip-flop
abbrev pub clock_of : Cell → Option ℕ
clock_of Outside = None
clock_of (Gate kind inputs) = None
clock_of (Flop data_place clock) = Some clock

-- the edges to the gates before one, and to some first inputs of it, are listed under the places that they are from
pub record AreListed (cells : List Cell) (gate count : ℕ) (entries : List Keyed) : Type 0 where
  pub below : All (λ (entry : Keyed). entry.key < length cells) entries
  pub complete : (g k : ℕ) → (g < gate) ⊎ ((g ≡ gate) × (k < count)) → k < length (inputs_of (cell_at cells g)) → has (group entries (get_or (inputs_of (cell_at cells g)) k 0)) (edge_of g (pin_of (inputs_of (cell_at cells g)) k)) ≡ true
  pub sound : (place edge : ℕ) → has (group entries place) edge ≡ true → (k : ℕ) × (k < length (inputs_of (cell_at cells (edge / EDGES)))) × (get_or (inputs_of (cell_at cells (edge / EDGES))) k 0 ≡ place) × (edge % EDGES ≡ pin_of (inputs_of (cell_at cells (edge / EDGES))) k)

-- the flip-flops among the first places are listed under their clocks
pub record AreTimed (cells : List Cell) (count : ℕ) (entries : List Keyed) : Type 0 where
  pub below : All (λ (entry : Keyed). entry.key < length cells) entries
  pub each : (place flop : ℕ) → has (group entries place) flop ≡ (nat_lt flop count && is_clocked_by place (cell_at cells flop))
