-- What contracts see of a cut.
use Rattle.std.specs.Prelude.{◌≡◌, map}
use Rattle.std.specs.List.{range_with_len}
use Rattle.gate_netlist.specs.declared.cut.Cut.TheInside.{Inside}
use Rattle.gate_netlist.specs.Cut.{Ownership, IsOwnership, own_nets}

abbrev pub ownership_of : Inside → Ownership
ownership_of cut = record { blocks = cut.blocks; owners = cut.owners.items }

-- what is true of a cut's fields: the law of cuts, and the own nets of each block
pub record IsHeldCut (cut : Inside) : Type 0 where
  pub law : IsOwnership (ownership_of cut)
  pub own : cut.own ≡ map (own_nets (ownership_of cut)) (range_with_len 0 cut.blocks)
