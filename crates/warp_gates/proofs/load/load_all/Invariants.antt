use Rattle.std.proofs.Common.{◌≡◌, ◌≤◌, ◌+◌, take, length, vec_len, vec_capacity}
use Rattle.warp_gates.specs.Inner.Told.{AreTold, all_edges}
use Rattle.warp_gates.specs.Inner.Loading.{AreLoaded}
use Rattle.warp_gates.proofs.load.load_all.Given as goal

abbrev pub invariant-loop-word : goal.invariant-loop-word
invariant-loop-word l = record {
  loaded : AreLoaded l.wiring l.values (take l.word-index l.words) l.initial.fronts l.fronts;
  told : AreTold l.initial.fronts l.fronts l.initial.puts.items l.puts.items;
  room : vec_len l.puts ≤ vec_len l.initial.puts + length (all_edges l.clocked (take l.word-index l.words));
  capacity : vec_capacity l.puts ≡ vec_capacity l.initial.puts;
}
