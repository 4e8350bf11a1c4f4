use Rattle.std.proofs.Common.{◌≡◌, ◌++◌, codes, take, flat_map}
use Rattle.gate_netlist.specs.Circuit.{name_of}
use Rattle.warp_text.proofs.nets.push_names.Given as goal

-- the first name stands, and the names before the loop's place
abbrev pub invariant-loop-net : goal.invariant-loop-net
invariant-loop-net l =
    l.text.items ≡ l.initial.text.items ++ flat_map (λ m. codes ", " ++ name_of l.circuit m) (take l.net-index l.rest)
