-- The part of a circuit that a cut gives a block.
use Rattle.std.specs.Prelude.{ℕ, Bool, not, ◌&&◌, ◌||◌, ◌==◌, if◌then◌else◌, List, [], map}
use Rattle.std.specs.List.{list_any, filter, range_with_len}
use Rattle.gate_values.specs.Behaviour.{Source, Outside}
use Rattle.gate_netlist.specs.Circuit.{Design, nets_of, driver_of, source_of, is_input}
use Rattle.gate_netlist.specs.Cut.{Ownership, is_owner, owner_of}
use Rattle.warp_part.specs.Portion.{Portion, does_use}

-- the block owns the net
abbrev pub is_own : Ownership → ℕ → ℕ → Bool
is_own cut b n = is_owner b (owner_of cut n)

-- a gate of the block uses the net
abbrev pub is_used_by : Design → Ownership → ℕ → ℕ → Bool
is_used_by d cut b n = list_any (λ g. is_own cut b g && does_use n (source_of d g)) (range_with_len 0 (nets_of d))

-- the nets that the block owns, and those that its gates read
abbrev pub part_nets : Design → Ownership → ℕ → List ℕ
part_nets d cut b = filter (λ n. is_own cut b n || is_used_by d cut b n) (range_with_len 0 (nets_of d))

-- what sets a net, as the block sees it
abbrev pub part_source : Design → Ownership → ℕ → ℕ → Source
part_source d cut b n = if is_own cut b n then source_of d n else Outside

-- the other blocks that read an own net
abbrev pub part_readers : Design → Ownership → ℕ → ℕ → List ℕ
part_readers d cut b n =
    if is_own cut b n then filter (λ c. not (c == b) && is_used_by d cut c n) (range_with_len 0 cut.blocks) else []

abbrev pub part_of : Design → Ownership → ℕ → Portion
part_of d cut b = record {
  block = b;
  nets = part_nets d cut b;
  sources = map (part_source d cut b) (part_nets d cut b);
  inputs = map (λ n. is_input (driver_of d n)) (part_nets d cut b);
  readers = map (part_readers d cut b) (part_nets d cut b);
}
