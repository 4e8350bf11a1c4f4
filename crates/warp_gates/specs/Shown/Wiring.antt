-- How what sets places lies in lists.
use Rattle.std.specs.Prelude.{ℕ, List, [], ◌∷◌, get_or}
use Rattle.warp_gates.specs.declared.wiring.Shape.{Shape}
use Rattle.warp_gates.specs.declared.wiring.Shape.TheVariants as Shapes
use Rattle.warp_gates.specs.Cells.{Cell, Outside, Gate, Flop}

-- what a shape over places is
abbrev pub cell_of : Shape → List ℕ → Cell
cell_of Shapes.Outside inputs = Outside
cell_of (Shapes.Gate kind) inputs = Gate kind inputs
cell_of Shapes.Flop inputs = Flop (get_or inputs 0 0) (get_or inputs 1 0)

-- what shapes over places are
abbrev pub cells_of : List Shape → List (List ℕ) → List Cell
cells_of [] inputs = []
cells_of (s ∷ ss) [] = []
cells_of (s ∷ ss) (i ∷ is) = cell_of s i ∷ cells_of ss is
