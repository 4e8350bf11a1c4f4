-- The even cut of a circuit.
use Rattle.std.specs.Prelude.{ℕ, ◌*◌, ◌/◌, not, if◌then◌else◌, List, map, take, Option, Some, None, count_by}
use Rattle.std.specs.List.{range_with_len}
use Rattle.gate_netlist.specs.declared.driver.Driver.{Driver}
use Rattle.gate_netlist.specs.Cut.{Ownership}
use Rattle.gate_netlist.specs.Circuit.{Design, nets_of, driver_of, is_input}

-- how many of some drivers are gates or flip-flops
abbrev pub driven_count : List Driver → ℕ
driven_count drivers = count_by (λ driver. not (is_input driver)) drivers

-- of g nets that aren't inputs, in net order, number j goes to block j * blocks / g, rounded down
abbrev pub even_owner : Design → ℕ → ℕ → Option ℕ
even_owner d blocks n =
    if is_input (driver_of d n) then None
    else Some (driven_count (take n d.drivers) * blocks / driven_count d.drivers)

-- so many blocks, and the owner of each net
abbrev pub even_cut : Design → ℕ → Ownership
even_cut d blocks = record { blocks = blocks; owners = map (even_owner d blocks) (range_with_len 0 (nets_of d)) }
