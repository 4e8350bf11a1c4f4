use Rattle.std.proofs.Common.{◌≡◌, length}
use Rattle.warp_part.specs.Inner.Building.{AreCells}
use Rattle.warp_part.proofs.part.build.cells_of.Given as goal

abbrev pub invariant-loop-net : goal.invariant-loop-net
invariant-loop-net l = record {
  many : length l.cells.items ≡ l.net-index;
  each : AreCells l.circuit l.cut l.block l.nets l.pins.items l.cells.items;
}
