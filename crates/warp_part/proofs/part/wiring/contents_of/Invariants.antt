use Rattle.std.proofs.Common.{◌≡◌, map, take}
use Rattle.warp_part.specs.Inner.Wired.{begun}
use Rattle.warp_part.proofs.part.wiring.contents_of.Given as goal

abbrev pub invariant-loop-cell : goal.invariant-loop-cell
invariant-loop-cell l = l.contents.items ≡ map begun (take l.cell-index l.cells)
