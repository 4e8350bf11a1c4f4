-- How gates lie in lists.
use Rattle.std.specs.Prelude.{List, map}
use Rattle.gate_values.specs.declared.logic.Logic.{Logic}
use Rattle.warp_gates.specs.declared.front.Front.{Front}
use Rattle.warp_gates.specs.Cells.{Cell, Gates}

-- what these lists hold
abbrev pub gates_of : List Cell → List Front → List Logic → Gates
gates_of cells fronts values = record { cells = cells; queues = map (λ (f : Front). f.queue) fronts; values = values; outputs = map (λ (f : Front). f.output) fronts }
