use Rattle.std.proofs.Common.{◌≡◌, ℕ, ◌≤◌, ◌+◌, ◌++◌, List, take, vec_len, vec_capacity}
use Rattle.warp_gates.specs.Inner.Fronts.{AreShown}
use Rattle.warp_gates.specs.Inner.Told.{AreListed}
use Rattle.warp_gates.proofs.front.show_and_list.Given as goal

abbrev pub invariant-loop-edge : goal.invariant-loop-edge
invariant-loop-edge l = record {
  shown : AreShown (take l.edge-index l.edges) l.value l.initial.fronts l.fronts;
  listed : (before : List ℕ) → AreListed before l.initial.fronts l.initial.stale.items → AreListed (before ++ take l.edge-index l.edges) l.fronts l.stale.items;
  room : vec_len l.stale ≤ vec_len l.initial.stale + l.edge-index;
  capacity : vec_capacity l.stale ≡ vec_capacity l.initial.stale;
}
