-- What places do over time, as lists of moves.
use Rattle.std.specs.Prelude.{◌≡◌, ℕ, zero, suc, ◌+◌, ◌<◌, ◌⊎◌, ◌==◌, if◌then◌else◌, List, [], ◌∷◌, ◌++◌, map}
use Rattle.std.specs.List.{filter, AllByRecursion}
use Rattle.gate_values.specs.declared.logic.Logic.{Logic}
use Rattle.gate_values.specs.declared.logic.Logic.TheVariants.{X}
use Rattle.gate_values.specs.Changes.{same}
use Rattle.gate_values.specs.Behaviour.{Source, Outside, Gate, Flop, output, before}
use Rattle.warp_stores.specs.Words.{Move}
use Rattle.warp_stores.specs.Dated.{Dated, at}

-- a place goes from one value to another, unless they are the same
abbrev pub move_of : ℕ → Logic → Logic → List Move
move_of place from to = if same to from then [] else record { place = place; before = from; after = to } ∷ []

-- the moves of a place at times below an end, where `shown t` is what it shows just before time t
unfoldable pub moves : ℕ → (ℕ → Logic) → ℕ → List (Dated Move)
moves place shown zero = []
moves place shown (suc t) = moves place shown t ++ at t (move_of place (shown t) (shown (suc t)))

-- the words of a place
abbrev pub of_place : ℕ → List (Dated Move) → List (Dated Move)
of_place place words = filter (λ d. d.1.place == place) words

-- each word a delay later
abbrev pub delayed : ℕ → List (Dated Move) → List (Dated Move)
delayed delay words = map (λ d. (d.0 + delay, d.1)) words

-- the value of a place just before a time
abbrev pub value_before : (ℕ → Source) → (ℕ → ℕ → Logic) → ℕ → ℕ → Logic
value_before source given place time = (before source given time).value place

-- what the source of a place makes of the moment just before a time: it comes true a delay later
abbrev pub made_before : (ℕ → Source) → (ℕ → ℕ → Logic) → ℕ → ℕ → Logic
made_before source given place time = output (source place) (before source given time) place

-- what a source is given, where `given` is its value at a time: what it begins with, or its value if it is outside
abbrev pub given_at : Source → Logic → Logic
given_at Outside given = given
given_at (Gate kind delay inputs) given = X
given_at (Flop delay data_place clock initial) given = initial

-- what is brought to a place just before a time; x before time 0
abbrev pub brought_before : (ℕ → Source) → (ℕ → ℕ → Logic) → ℕ → ℕ → Logic
brought_before source given place zero = X
brought_before source given place (suc t) = given_at (source place) (given t place)

-- the value that some words leave, where there was one before them
abbrev pub last_after : Logic → List Move → Logic
last_after value [] = value
last_after value (w ∷ ws) = last_after w.after ws

-- the value before some words, where there is one after them
abbrev pub first_before : Logic → List Move → Logic
first_before value [] = value
first_before value (w ∷ ws) = w.before

-- Each word goes from the value that the one before it left.
abbrev pub AreChained : Logic → List Move → Type 0
AreChained value [] = Unit {0}
AreChained value (w ∷ ws) = (w.before ≡ value) × AreChained w.after ws

-- one word is ahead of another: it came earlier, or at the same time at a smaller place
abbrev pub IsAhead : Dated Move → Dated Move → Type 0
IsAhead d e = (d.0 < e.0) ⊎ ((d.0 ≡ e.0) × (d.1.place < e.1.place))

-- words in order of time and place, none twice
abbrev pub Ascend : List (Dated Move) → Type 0
Ascend [] = Unit {0}
Ascend (d ∷ ds) = AllByRecursion (IsAhead d) ds × Ascend ds
