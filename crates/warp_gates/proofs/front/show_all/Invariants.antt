use Rattle.std.proofs.Common.{◌≡◌, ◌≤◌, List, length, take, vec_len, vec_capacity}
use Rattle.warp_gates.specs.Cells.{Cell, moved}
use Rattle.warp_gates.specs.Inner.Fronts.{AreReaders, AreFronts, AreTouched}
use Rattle.warp_gates.specs.Inner.Told.{AreListed, all_edges}
use Rattle.warp_gates.proofs.front.show_all.Given as goal

abbrev pub invariant-loop-word : goal.invariant-loop-word
invariant-loop-word l = record {
  values : l.values ≡ moved (take l.word-index l.words) l.fn.values;
  fronts : (cells : List Cell) → AreReaders cells l.readers → AreFronts cells l.fn.values l.fn.fronts → AreFronts cells l.values l.fronts;
  touched : AreTouched l.readers (take l.word-index l.words) l.fn.fronts l.fronts;
  listed : AreListed (all_edges l.readers (take l.word-index l.words)) l.fronts l.list.items;
  room : vec_len l.list ≤ length (all_edges l.readers (take l.word-index l.words));
  capacity : vec_capacity l.list ≡ vec_capacity l.fn.stale;
}
