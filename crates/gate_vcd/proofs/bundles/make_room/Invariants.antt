use Rattle.std.proofs.Common.{◌≡◌, length}
use Rattle.net_waves.specs.Waves.{lists_in}
use Rattle.gate_vcd.proofs.bundles.make_room.Given as goal

abbrev pub invariant-loop-place : goal.invariant-loop-place
invariant-loop-place l = record {
  long : length l.lists.items ≡ length l.initial.lists.items;
  same : lists_in l.lists.items ≡ lists_in l.initial.lists.items;
}
