-- Marks: for each net of a circuit whether it is told.
use Rattle.std.specs.Prelude.{ℕ, Bool, List, map}
use Rattle.std.specs.List.{range_with_len}
use Rattle.gate_netlist.specs.Circuit.{is_one_of}

-- for each of so many nets whether it is one of these
unfoldable pub marks : ℕ → List ℕ → List Bool
marks count nets = map (is_one_of nets) (range_with_len 0 count)
