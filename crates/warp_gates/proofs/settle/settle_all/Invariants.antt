use Rattle.std.proofs.Common.{take}
use Rattle.warp_gates.specs.Inner.Fronts.{AreFronts}
use Rattle.warp_gates.specs.Inner.Told.{AreRefreshed, all_edges}
use Rattle.warp_gates.specs.Inner.Undoing.{AreQueuesKept}
use Rattle.warp_gates.proofs.settle.settle_all.Given as goal

abbrev pub invariant-loop-word : goal.invariant-loop-word
invariant-loop-word l = record {
  fronts : AreFronts l.wiring l.values l.fronts;
  refreshed : AreRefreshed (all_edges l.readers (take l.word-index l.words)) l.initial.fronts l.fronts;
  queues : AreQueuesKept l.initial.fronts l.fronts;
}
