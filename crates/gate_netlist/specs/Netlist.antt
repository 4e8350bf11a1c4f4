-- What a bench text says: nets in the order of their defining lines.
use Rattle.std.specs.Prelude.{◌≡◌, ℕ, ◌<◌, Bool, List, [], length, get_or, Option, Some, position}
use Rattle.std.specs.List.{list_any, zip}
use Rattle.std.specs.Str.{bytes_eq}
use Rattle.gate_netlist.specs.declared.bench.Definition.{Definition}

-- Net n has the n-th name and definition. Nets are meant by their numbers.
pub record Netlist : Type 0 where
  pub names : List (List ℕ)
  pub definitions : List Definition
  pub outputs : List ℕ

-- the place of a name among names
abbrev pub place_of : List (List ℕ) → List ℕ → Option ℕ
place_of names name = position (λ other. bytes_eq name other) names

-- the net of a name
abbrev pub net_named : Netlist → List ℕ → Option ℕ
net_named b name = place_of b.names name

-- some net passes the test, by its name and definition
abbrev pub any_net : (List ℕ → Definition → Bool) → List (List ℕ) → List Definition → Bool
any_net p names definitions = list_any (λ (net : List ℕ × Definition). p net.0 net.1) (zip names definitions)

-- Names differ: each is found at its own place.
abbrev pub NamesDiffer : List (List ℕ) → Type 0
NamesDiffer names = (n : ℕ) → n < length names → place_of names (get_or names n []) ≡ Some n
