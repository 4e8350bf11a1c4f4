-- Places that stand for nets: the same sources under other names.
use Rattle.std.specs.Prelude.{◌≡◌, ℕ, ◌<◌, map}
use Rattle.std.specs.List.{AllByRecursion}
use Rattle.gate_values.specs.declared.logic.Logic.{Logic}
use Rattle.gate_values.specs.Behaviour.{Source, Outside, Gate, Flop}

-- another source is the same over the nets for which places stand
abbrev pub IsNamed : (ℕ → ℕ) → Source → Source → Type 0
IsNamed net Outside other = other ≡ Outside
IsNamed net (Gate kind delay inputs) other = other ≡ Gate kind delay (map net inputs)
IsNamed net (Flop delay data_place clock initial) other = other ≡ Flop delay (net data_place) (net clock) initial

-- a source is over places below an end
abbrev pub IsBelow : ℕ → Source → Type 0
IsBelow end Outside = Unit {0}
IsBelow end (Gate kind delay inputs) = AllByRecursion (λ i. i < end) inputs
IsBelow end (Flop delay data_place clock initial) = (data_place < end) × (clock < end)

-- So many places stand for nets: each for one with the same source, and given the same.
pub record StandForNets (count : ℕ) (net : ℕ → ℕ) (source other : ℕ → Source) (here there : ℕ → ℕ → Logic) : Type 0 where
  pub named : (place : ℕ) → place < count → IsNamed net (source place) (other (net place))
  pub closed : (place : ℕ) → place < count → IsBelow count (source place)
  pub given : (place time : ℕ) → place < count → here time place ≡ there time (net place)
