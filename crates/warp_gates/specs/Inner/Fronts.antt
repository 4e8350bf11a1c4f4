-- What is kept of each place at hand, and who reads each place.
use Rattle.std.specs.Prelude.{◌≡◌, ℕ, ◌+◌, ◌-◌, ◌*◌, ◌/◌, ◌%◌, ◌<◌, ◌==◌, ◌⊎◌, Bool, true, false, ◌||◌, nat_le, if◌then◌else◌, List, [], ◌++◌, length, map, get_or, replicate}
use Rattle.std.specs.List.{All, list_any}
use Rattle.gate_values.specs.declared.logic.Logic.{Logic}
use Rattle.gate_values.specs.declared.logic.Logic.TheVariants.{Zero, One}
use Rattle.gate_values.specs.declared.gate.Kind.{Kind}
use Rattle.gate_values.specs.declared.gate.Kind.TheVariants.{And, Nand}
use Rattle.warp_stores.specs.Words.{Move}
use Rattle.warp_gates.specs.declared.front.Front.{Front}
use Rattle.warp_gates.specs.declared.front.TheConstants.{EDGES}
use Rattle.warp_gates.specs.declared.pins.TheConstants.{PINS}
use Rattle.warp_gates.specs.Inner.Pins.{pins_of}
use Rattle.warp_gates.specs.Cells.{Cell, Outside, Gate, Flop, value_at, cell_at, gate_output}

-- the value that an input has which isn't there: it changes no output
abbrev pub neutral : Kind → Logic
neutral And = One
neutral Nand = One
neutral _ = Zero

-- four inputs in place of fewer
abbrev pub padded : Kind → List Logic → List Logic
padded kind vs = vs ++ replicate (PINS - length vs) (neutral kind)

-- the places that a gate reads
abbrev pub inputs_of : Cell → List ℕ
inputs_of Outside = []
inputs_of (Gate kind inputs) = inputs
inputs_of (Flop data_place clock) = []

-- a gate of at most four inputs
abbrev pub is_narrow : List ℕ → Bool
is_narrow inputs = nat_le (length inputs) PINS

-- An edge: a gate's place, and which of its pins, or that it has more than four.
abbrev pub edge_of : ℕ → ℕ → ℕ
edge_of gate pin = gate * EDGES + pin

-- the pin of an input
abbrev pub pin_of : List ℕ → ℕ → ℕ
pin_of inputs k = if is_narrow inputs then k else PINS

abbrev pub has : List ℕ → ℕ → Bool
has xs n = list_any (λ x. x == n) xs

-- one of some edges is to a gate
abbrev pub has_gate : List ℕ → ℕ → Bool
has_gate edges gate = list_any (λ e. e / EDGES == gate) edges

-- the edges from a place
abbrev pub row_of : List (List ℕ) → ℕ → List ℕ
row_of rows place = get_or rows place []

-- From each place there is an edge to each input of a gate that reads it, and no other.
pub record AreReaders (cells : List Cell) (rows : List (List ℕ)) : Type 0 where
  pub same : length rows ≡ length cells
  pub complete : (gate k : ℕ) → k < length (inputs_of (cell_at cells gate)) → has (row_of rows (get_or (inputs_of (cell_at cells gate)) k 0)) (edge_of gate (pin_of (inputs_of (cell_at cells gate)) k)) ≡ true
  pub sound : (place edge : ℕ) → has (row_of rows place) edge ≡ true → (k : ℕ) × (k < length (inputs_of (cell_at cells (edge / EDGES)))) × (get_or (inputs_of (cell_at cells (edge / EDGES))) k 0 ≡ place) × (edge % EDGES ≡ pin_of (inputs_of (cell_at cells (edge / EDGES))) k)

-- the place is a flip-flop's with this clock
abbrev pub is_clocked_by : ℕ → Cell → Bool
is_clocked_by place Outside = false
is_clocked_by place (Gate kind inputs) = false
is_clocked_by place (Flop data_place clock) = clock == place

-- Each place's row has the flip-flops whose clock it is.
pub record AreClocked (cells : List Cell) (rows : List (List ℕ)) : Type 0 where
  pub same : length rows ≡ length cells
  pub each : (place flop : ℕ) → has (row_of rows place) flop ≡ is_clocked_by place (cell_at cells flop)

-- the pins show the values at the inputs, where there are at most four
abbrev pub IsShowing : List Logic → Cell → Front → Type 0
IsShowing values Outside front = Unit {0}
IsShowing values (Gate kind inputs) front =
    (front.kind ≡ kind) × (is_narrow inputs ≡ true → (k : ℕ) → k < PINS → value_at (pins_of front.pins) k ≡ value_at (padded kind (map (value_at values) inputs)) k)
IsShowing values (Flop data_place clock) front = Unit {0}

-- a gate puts out what it makes of the values, or is known not to
abbrev pub IsFresh : List Logic → Cell → Front → Type 0
IsFresh values Outside front = Unit {0}
IsFresh values (Gate kind inputs) front = (front.is_stale ≡ true) ⊎ (front.output ≡ gate_output values kind inputs)
IsFresh values (Flop data_place clock) front = Unit {0}

abbrev pub front_at : Front → List Front → ℕ → Front
front_at d fronts place = get_or fronts place d

-- what is at hand of each place is that of its cell
pub record AreFronts (cells : List Cell) (values : List Logic) (fronts : List Front) : Type 0 where
  pub same : length fronts ≡ length cells
  pub showing : (place : ℕ) (d : Front) → place < length cells → IsShowing values (cell_at cells place) (front_at d fronts place)
  pub fresh : (place : ℕ) (d : Front) → place < length cells → IsFresh values (cell_at cells place) (front_at d fronts place)

-- no place is stale
pub record AreSettled (fronts : List Front) : Type 0 where
  pub each : (place : ℕ) (d : Front) → place < length fronts → (front_at d fronts place).is_stale ≡ false

-- a value is shown along some edges
pub record IsShown (edges : List ℕ) (value : Logic) (place : ℕ) (old new : Front) : Type 0 where
  pub queue : new.queue ≡ old.queue
  pub kind : new.kind ≡ old.kind
  pub output : new.output ≡ old.output
  pub pins : (k : ℕ) → k < PINS → value_at (pins_of new.pins) k ≡ (if has edges (edge_of place k) then value else value_at (pins_of old.pins) k)
  pub stale : new.is_stale ≡ (old.is_stale || has_gate edges place)

pub record AreShown (edges : List ℕ) (value : Logic) (old new : List Front) : Type 0 where
  pub same : length new ≡ length old
  pub each : (place : ℕ) (d : Front) → place < length old → IsShown edges value place (front_at d old place) (front_at d new place)

-- a value is shown at a pin
pub record IsShownAt (pin : ℕ) (value : Logic) (old new : Front) : Type 0 where
  pub queue : new.queue ≡ old.queue
  pub kind : new.kind ≡ old.kind
  pub output : new.output ≡ old.output
  pub pins : (k : ℕ) → k < PINS → value_at (pins_of new.pins) k ≡ (if k == pin then value else value_at (pins_of old.pins) k)
  pub stale : new.is_stale ≡ true

-- one of some words is read by a gate
abbrev pub reached : List (List ℕ) → List Move → ℕ → Bool
reached rows words gate = list_any (λ w. has_gate (row_of rows w.place) gate) words

-- each place has the queue, the kind and the output that it had
pub record IsKept (old new : Front) : Type 0 where
  pub queue : new.queue ≡ old.queue
  pub kind : new.kind ≡ old.kind
  pub output : new.output ≡ old.output

-- Values were shown: each place keeps its output, and what became stale is read by one of some words.
pub record AreTouched (rows : List (List ℕ)) (words : List Move) (old new : List Front) : Type 0 where
  pub same : length new ≡ length old
  pub kept : (place : ℕ) (d : Front) → place < length old → IsKept (front_at d old place) (front_at d new place)
  pub stale : (place : ℕ) (d : Front) → place < length old → (front_at d new place).is_stale ≡ true → ((front_at d old place).is_stale ≡ true) ⊎ (reached rows words place ≡ true)

-- all edges are to places
pub record AreEdges (count : ℕ) (rows : List (List ℕ)) : Type 0 where
  pub each : (place : ℕ) → All (λ e. e / EDGES < count) (row_of rows place)
