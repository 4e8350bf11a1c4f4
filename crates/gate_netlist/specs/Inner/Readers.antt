-- Each net's readers, listed reader by reader.
use Rattle.std.specs.Prelude.{◌≡◌, ℕ, ◌+◌, ◌<◌, ◌≤◌, nat_le, not, if◌then◌else◌, List, [], ◌∷◌, ◌++◌, length, get_or}
use Rattle.std.specs.List.{All}
use Rattle.gate_netlist.specs.declared.driver.Driver.{Driver}
use Rattle.number_groups.specs.declared.groups.Keyed.{Keyed}
use Rattle.number_groups.specs.Groups.{group}
use Rattle.gate_netlist.specs.Circuit.{is_one_of, readers_among}

-- No reader from this one on is listed yet.
pub record AreOpen (reader : ℕ) (uses : List Keyed) (next : List ℕ) : Type 0 where
  pub keys : All (λ (entry : Keyed). entry.key < length next) uses
  pub low : (n : ℕ) → n < length next → get_or next n 0 ≤ reader

-- The reader is listed under those of some nets that it wasn't, and `next` tells which.
pub record AreTold (before : ℕ → List ℕ) (reader : ℕ) (nets : List ℕ) (uses : List Keyed) (next : List ℕ) : Type 0 where
  pub keys : All (λ (entry : Keyed). entry.key < length next) uses
  pub readers : (n : ℕ) → n < length next → group uses n ≡ before n ++ (if is_one_of nets n then reader ∷ [] else [])
  pub told : (n : ℕ) → n < length next → nat_le (get_or next n 0) reader ≡ not (is_one_of nets n)
  pub within : (n : ℕ) → n < length next → get_or next n 0 ≤ reader + 1

-- the readers among the first so many nets are listed, each once
pub record AreListed (drivers : List Driver) (count : ℕ) (uses : List Keyed) : Type 0 where
  pub keys : All (λ (entry : Keyed). entry.key < length drivers) uses
  pub readers : (n : ℕ) → n < length drivers → group uses n ≡ readers_among drivers count n
