-- Each net under its owner.
use Rattle.std.specs.Prelude.{◌≡◌, ℕ, List, get_or, Option, Some, None}
use Rattle.std.specs.List.{All}
use Rattle.number_groups.specs.declared.groups.Keyed.{Keyed}
use Rattle.number_groups.specs.Groups.{group}
use Rattle.gate_netlist.specs.Cut.{own_among}

-- the first so many nets stand under their owners
pub record AreOwned (owners : List (Option ℕ)) (count : ℕ) (entries : List Keyed) : Type 0 where
  pub keys : All (λ (entry : Keyed). get_or owners entry.number None ≡ Some entry.key) entries
  pub groups : (b : ℕ) → group entries b ≡ own_among owners count b
