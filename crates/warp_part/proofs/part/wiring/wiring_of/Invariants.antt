use Rattle.std.proofs.Common.{◌≡◌, map, take}
use Rattle.warp_part.specs.Inner.Wired.{wired}
use Rattle.warp_part.proofs.part.wiring.wiring_of.Given as goal

abbrev pub invariant-loop-cell : goal.invariant-loop-cell
invariant-loop-cell l = l.wiring ≡ map (wired l.pins) (take l.cell-index l.cells)
