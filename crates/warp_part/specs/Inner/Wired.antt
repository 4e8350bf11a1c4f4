-- What sets the places of a part, by its cells.
use Rattle.std.specs.Prelude.{ℕ, List}
use Rattle.gate_values.specs.declared.logic.Logic.{Logic}
use Rattle.gate_values.specs.declared.logic.Logic.TheVariants.{X}
use Rattle.warp_gates.specs.Cells as cells
use Rattle.warp_part.specs.declared.cell.Cell.{Cell}
use Rattle.warp_part.specs.declared.cell.Cell.TheVariants.{Input, Foreign, Pair, Gate, Flop}
use Rattle.warp_part.specs.Shown.Part.{stretch}

-- what a cell is among places, over pins
abbrev pub wired : List ℕ → Cell → cells.Cell
wired pins Input = cells.Outside
wired pins Foreign = cells.Outside
wired pins (Pair kind delay two) = cells.Gate kind two
wired pins (Gate kind delay span) = cells.Gate kind (stretch pins span)
wired pins (Flop init delay d clock) = cells.Flop d clock

-- what a cell begins with
abbrev pub begun : Cell → Logic
begun Input = X
begun Foreign = X
begun (Pair kind delay two) = X
begun (Gate kind delay span) = X
begun (Flop init delay d clock) = init
