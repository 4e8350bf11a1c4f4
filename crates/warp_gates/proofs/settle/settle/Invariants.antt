use Rattle.std.proofs.Common.{take}
use Rattle.warp_gates.specs.Inner.Fronts.{AreFronts}
use Rattle.warp_gates.specs.Inner.Told.{AreRefreshed}
use Rattle.warp_gates.specs.Inner.Undoing.{AreQueuesKept}
use Rattle.warp_gates.proofs.settle.settle.Given as goal

abbrev pub invariant-loop-edge : goal.invariant-loop-edge
invariant-loop-edge l = record {
  fronts : AreFronts l.wiring l.values l.fronts;
  refreshed : AreRefreshed (take l.edge-index l.edges) l.initial.fronts l.fronts;
  queues : AreQueuesKept l.initial.fronts l.fronts;
}
