-- What a stimulus gives the inputs of a circuit.
use Rattle.std.specs.Prelude.{◌≡◌, ℕ, ◌+◌, List, [], map, get_or, Option, None, unwrap_or, is_some}
use Rattle.gate_values.specs.declared.logic.Logic.{Logic}
use Rattle.gate_values.specs.declared.logic.Logic.TheVariants.{X}
use Rattle.gate_values.specs.declared.logic.Change.{Change}
use Rattle.gate_values.specs.Changes.{changes, latest}
use Rattle.gate_netlist.specs.Circuit.{Design, is_input}
use Rattle.gate_stimulus.specs.declared.timescale.Timescale.{Timescale}

-- The changes of each net of a circuit, by its number: none for a net that isn't an input.
pub record Given : Type 0 where
  pub timescale : Timescale
  pub waves : List (Option (List Change))

-- the changes of a net; none of a number that is no input
abbrev pub changes_of : Given → ℕ → List Change
changes_of g n = unwrap_or (get_or g.waves n None) []

-- the value of a net at a time; x of a number that is no input
abbrev pub value_at : Given → ℕ → ℕ → Logic
value_at g n t = latest X (changes_of g n) t

-- the greatest time of a stimulus
abbrev pub last_stamp : ℕ
last_stamp = 1000000000000000000

-- A list is that of the changes of its values, up to the greatest time.
abbrev pub AreItsChanges : List Change → Type 0
AreItsChanges cs = cs ≡ changes (latest X cs) (last_stamp + 1)

-- as many nets, with the same inputs
abbrev pub Fits : Given → Design → Type 0
Fits g d = map is_some g.waves ≡ map is_input d.drivers
