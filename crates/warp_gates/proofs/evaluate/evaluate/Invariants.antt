use Rattle.std.proofs.Common.{◌≡◌, ◌≤◌, ◌+◌, List, take, vec_len, vec_capacity}
use Rattle.warp_gates.specs.declared.front.Front.{Front}
use Rattle.warp_gates.specs.declared.put.Put.{Put}
use Rattle.warp_gates.specs.Inner.Fronts.{AreFronts}
use Rattle.warp_gates.specs.Inner.Told.{AreEvaluating, AreRefreshed}
use Rattle.warp_gates.proofs.evaluate.evaluate.Given as goal

abbrev pub invariant-loop-edge : goal.invariant-loop-edge
invariant-loop-edge l = record {
  fronts : AreFronts l.wiring l.values l.fronts;
  refreshed : AreRefreshed (take l.edge-index l.edges) l.fn.fronts l.fronts;
  evaluating : (old : List Front) (before : List Put) → AreEvaluating l.wiring l.values old l.fn.fronts before l.fn.puts.items → AreEvaluating l.wiring l.values old l.fronts before l.list.items;
  room : vec_len l.list ≤ vec_len l.fn.puts + l.edge-index;
  capacity : vec_capacity l.list ≡ vec_capacity l.fn.puts;
}
