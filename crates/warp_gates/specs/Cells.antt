-- The places of a block: what sets each, and what they hold.
use Rattle.std.specs.Prelude.{◌≡◌, ◌≢◌, ℕ, ◌<◌, ◌==◌, if◌then◌else◌, List, [], ◌∷◌, ◌++◌, length, map, get_or, slice_set}
use Rattle.std.specs.List.{All, filter}
use Rattle.gate_values.specs.declared.logic.Logic.{Logic}
use Rattle.gate_values.specs.declared.logic.Logic.TheVariants.{X}
use Rattle.gate_values.specs.declared.gate.Kind.{Kind}
use Rattle.gate_values.specs.Tables.{table_of, flip_of, HasInputs}
use Rattle.gate_values.specs.Changes.{same}
use Rattle.warp_stores.specs.Words.{Move}
use Rattle.warp_gates.specs.declared.put.Put.{Put}

-- What sets a place: something outside, a gate over places, or a flip-flop by its data and its clock.
pub data Cell : Type 0 where
  Outside : Cell
  Gate : (kind : Kind) (inputs : List ℕ) → Cell
  Flop : (data_place clock : ℕ) → Cell

-- Places with what sets them, the queue that each puts its changes into, the value of each, and what each puts out: a gate
-- by its inputs, a flip-flop its content.
pub record Gates : Type 0 where
  pub cells : List Cell
  pub queues : List ℕ
  pub values : List Logic
  pub outputs : List Logic

-- what stands at a place; unknown past all places
abbrev pub value_at : List Logic → ℕ → Logic
value_at values place = get_or values place X

abbrev pub cell_at : List Cell → ℕ → Cell
cell_at cells place = get_or cells place Outside

-- what a gate makes of values
abbrev pub gate_output : List Logic → Kind → List ℕ → Logic
gate_output values kind inputs = table_of kind (map (value_at values) inputs)

-- what a place puts out once it has put out something, and the values have become others
abbrev pub next_output : List Logic → List Logic → Cell → Logic → Logic
next_output before now Outside last = last
next_output before now (Gate kind inputs) last = gate_output now kind inputs
next_output before now (Flop data_place clock) last = flip_of last (value_at before clock) (value_at now clock) (value_at before data_place)

-- what a place puts out of values as they stand: a gate by its inputs, another what it put out last
abbrev pub settled_output : List Logic → Cell → Logic → Logic
settled_output values Outside last = last
settled_output values (Gate kind inputs) last = gate_output values kind inputs
settled_output values (Flop data_place clock) last = last

-- what a place puts out once words that were put are taken back: a flip-flop what it put out before them, as they tell
abbrev pub restored_output : Cell → Logic → Logic → Logic
restored_output Outside told last = last
restored_output (Gate kind inputs) told last = last
restored_output (Flop data_place clock) told last = told

-- what a place puts out at first, where all values are unknown: a gate that, another its content
abbrev pub first_output : Cell → Logic → Logic
first_output Outside content = content
first_output (Gate kind inputs) content = X
first_output (Flop data_place clock) content = content

-- no two words are of one place
pub record AreApart (words : List Move) : Type 0 where
  pub apart : (i j : ℕ) (d : Move) → i < j → j < length words → (get_or words i d).place ≢ (get_or words j d).place

-- the values after some changes, the first of them first
abbrev pub moved : List Move → List Logic → List Logic
moved [] values = values
moved (w ∷ ws) values = moved ws (slice_set values w.place w.after)

-- the values before some changes: they are taken back, the last of them first
abbrev pub unmoved : List Move → List Logic → List Logic
unmoved [] values = values
unmoved (w ∷ ws) values = slice_set (unmoved ws values) w.place w.before

-- a cell that stands over places below an end, as many as its kind takes
abbrev pub IsCell : ℕ → Cell → Type 0
IsCell end Outside = Unit {0}
IsCell end (Gate kind inputs) = HasInputs kind (length inputs) × All (λ i. i < end) inputs
IsCell end (Flop data_place clock) = (data_place < end) × (clock < end)

-- each gate puts out what it makes of the values
abbrev pub IsSettled : List Logic → Cell → Logic → Type 0
IsSettled values Outside output = Unit {0}
IsSettled values (Gate kind inputs) output = output ≡ gate_output values kind inputs
IsSettled values (Flop data_place clock) output = Unit {0}

-- what is true of all gates
pub record AreGates (gates : Gates) : Type 0 where
  pub queues : length gates.queues ≡ length gates.cells
  pub values : length gates.values ≡ length gates.cells
  pub outputs : length gates.outputs ≡ length gates.cells
  pub closed : All (IsCell (length gates.cells)) gates.cells
  pub settled : (place : ℕ) → IsSettled gates.values (cell_at gates.cells place) (value_at gates.outputs place)

-- what is put of a place
abbrev pub puts_at : ℕ → List Put → List Put
puts_at place puts = filter (λ (p : Put). p.word.place == place) puts

-- what is to be put of a place: its output's change, if it changes
abbrev pub put_of : ℕ → ℕ → Logic → Logic → List Put
put_of place queue before after =
    if same after before then [] else record { queue = queue; word = record { place = place; before = before; after = after } } ∷ []

-- Some were put: for each place that puts out another value its change, once, and nothing else.
pub record ArePut (old new : Gates) (before out : List Put) : Type 0 where
  pub sent : List Put
  pub appended : out ≡ before ++ sent
  pub each : (place : ℕ) → puts_at place sent ≡ put_of place (get_or old.queues place 0) (value_at old.outputs place) (value_at new.outputs place)

-- what places put out once the values have become others
abbrev pub HaveNext : Gates → Gates → Type 0
HaveNext old new = (place : ℕ) → value_at new.outputs place ≡ next_output old.values new.values (cell_at old.cells place) (value_at old.outputs place)

-- what places put out once values were put back
abbrev pub HaveSettled : Gates → Gates → Type 0
HaveSettled old new = (place : ℕ) → value_at new.outputs place ≡ settled_output new.values (cell_at old.cells place) (value_at old.outputs place)

-- what places put out once words that were put are taken back
abbrev pub HaveRestored : List Move → Gates → Gates → Type 0
HaveRestored words old new =
    (place : ℕ) → value_at new.outputs place ≡ restored_output (cell_at old.cells place) (value_at (unmoved words old.outputs) place) (value_at old.outputs place)
