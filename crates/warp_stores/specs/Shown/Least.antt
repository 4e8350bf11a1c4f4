-- How times lie in a tournament.
use Rattle.std.specs.Prelude.{ℕ, ◌/◌, List, length, drop}

-- the times: the second half of the nodes
abbrev pub leaves : List ℕ → List ℕ
leaves nodes = drop (length nodes / 2) nodes
