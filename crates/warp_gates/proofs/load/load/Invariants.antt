use Rattle.std.proofs.Common.{◌≡◌, ◌≤◌, ◌+◌, List, take, vec_len, vec_capacity}
use Rattle.warp_gates.specs.declared.front.Front.{Front}
use Rattle.warp_gates.specs.declared.put.Put.{Put}
use Rattle.warp_gates.specs.Inner.Told.{AreTold}
use Rattle.warp_gates.specs.Inner.Loading.{AreFlipped, StillPutOut}
use Rattle.warp_gates.proofs.load.load.Given as goal

abbrev pub invariant-loop-flop : goal.invariant-loop-flop
invariant-loop-flop l = record {
  flipped : AreFlipped l.wiring (take l.flop-index l.flops) l.values l.before l.after l.initial.fronts l.fronts;
  told : (old : List Front) (first : List Put) → AreTold old l.initial.fronts first l.initial.puts.items → StillPutOut l.flops old l.initial.fronts → AreTold old l.fronts first l.puts.items;
  room : vec_len l.puts ≤ vec_len l.initial.puts + l.flop-index;
  capacity : vec_capacity l.puts ≡ vec_capacity l.initial.puts;
}
