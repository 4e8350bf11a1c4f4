-- What the code comes by that goes over the lines of a text.
use Rattle.std.specs.Prelude.{ℕ, List, [], Option, Some, None}
use Rattle.std.specs.Borrow.{Bor}
use Rattle.gate_netlist.specs.Lines.{lines_of}

-- the lines of what follows a line, where it has an end
abbrev pub lines_after : Option (Bor (List ℕ)) → List (List ℕ)
lines_after None = []
lines_after (Some rest) = lines_of rest.now
