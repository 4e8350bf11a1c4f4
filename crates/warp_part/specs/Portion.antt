-- What a block has of a circuit: its own nets, and the nets that their gates read.
use Rattle.std.specs.Prelude.{◌≡◌, ◌≢◌, ℕ, ◌<◌, ◌≤◌, Bool, true, false, not, ◌&&◌, ◌==◌, Option, Some, None, is_some, IsTrue, List, [], ◌∷◌, length, get_or, slice_index}
use Rattle.std.specs.List.{list_any, position, All}
use Rattle.std.specs.List.Sorted.{IsStrictlyIncreasing}
use Rattle.gate_values.specs.Behaviour.{Source, Outside, Gate, Flop, IsWellFormed, source_delay}
use Rattle.gate_netlist.specs.Circuit.{IsDelay}

-- The nets stand in ascending order, each with what sets it (a net that the block reads and doesn't own is set
-- outside), whether it is an input of the circuit, and the other blocks that read it, which only an own net has.
pub record Portion : Type 0 where
  pub block : ℕ
  pub nets : List ℕ
  pub sources : List Source
  pub inputs : List Bool
  pub readers : List (List ℕ)

-- the place of a net among others
abbrev pub slot_of : List ℕ → ℕ → Option ℕ
slot_of nets n = position (λ m. m == n) nets

-- what stands at a place, and something else where there is no place
abbrev pub at_slot : {A : Type 0} → List A → A → Option ℕ → A
at_slot xs other None = other
at_slot xs other (Some i) = get_or xs i other

-- Lists that have one item a net: that of a net, and something else where the net isn't among them.
abbrev pub of_net : {A : Type 0} → List ℕ → List A → A → ℕ → A
of_net nets xs other n = at_slot xs other (slot_of nets n)

-- a gate or a flip-flop sets it
abbrev pub is_driven : Source → Bool
is_driven Outside = false
is_driven (Gate kind delay inputs) = true
is_driven (Flop delay data_net clock initial) = true

-- the nets that a gate uses as inputs, and a flip-flop as data and clock
abbrev pub uses : Source → List ℕ
uses Outside = []
uses (Gate kind delay inputs) = inputs
uses (Flop delay data_net clock initial) = data_net ∷ clock ∷ []

abbrev pub does_use : ℕ → Source → Bool
does_use n s = list_any (λ u. u == n) (uses s)

-- what sets a net, as the block sees it
abbrev pub source_of : Portion → ℕ → Source
source_of p n = of_net p.nets p.sources Outside n

-- the block owns the net
abbrev pub owns : Portion → ℕ → Bool
owns p n = is_driven (source_of p n)

-- a gate of the block reads the net, and the block doesn't own it
abbrev pub reads : Portion → ℕ → Bool
reads p n = is_some (slot_of p.nets n) && not (owns p n)

-- an input of the circuit that the block reads
abbrev pub is_input : Portion → ℕ → Bool
is_input p n = of_net p.nets p.inputs false n

-- a net of another block that the block reads: messages tell its changes
abbrev pub hears : Portion → ℕ → Bool
hears p n = reads p n && not (is_input p n)

-- the other blocks that read a net
abbrev pub readers_of : Portion → ℕ → List ℕ
readers_of p n = of_net p.nets p.readers [] n

-- a gate of the block reads the net
abbrev pub is_used : Portion → ℕ → Bool
is_used p n = list_any (does_use n) p.sources

-- What is true of each part that a block can have. The readers of a net ascend, the block isn't among them, and a net
-- that it doesn't own has none.
pub record IsPortion (p : Portion) : Type 0 where
  pub few : length p.nets ≤ 1000000
  pub ascending : IsStrictlyIncreasing p.nets
  pub sources : length p.sources ≡ length p.nets
  pub inputs : length p.inputs ≡ length p.nets
  pub readers : length p.readers ≡ length p.nets
  pub driven : (i : ℕ) → i < length p.nets → IsTrue (is_driven (get_or p.sources i Outside)) → IsWellFormed (get_or p.sources i Outside) × IsDelay (source_delay (get_or p.sources i Outside)) × All (λ u. IsTrue (is_some (slot_of p.nets u))) (uses (get_or p.sources i Outside))
  pub input : (i : ℕ) → i < length p.nets → IsTrue (get_or p.inputs i false) → get_or p.sources i Outside ≡ Outside
  pub read : (i : ℕ) → i < length p.nets → get_or p.sources i Outside ≡ Outside → IsTrue (is_used p (slice_index p.nets i))
  pub told : (i : ℕ) → i < length p.nets → IsStrictlyIncreasing (get_or p.readers i [])
  pub others : (i : ℕ) → i < length p.nets → All (λ r. r ≢ p.block) (get_or p.readers i [])
  pub untold : (i : ℕ) → i < length p.nets → get_or p.sources i Outside ≡ Outside → get_or p.readers i [] ≡ []
