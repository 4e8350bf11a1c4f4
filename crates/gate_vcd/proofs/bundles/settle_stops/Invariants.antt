use Rattle.std.proofs.Common.{◌≡◌, length, take}
use Rattle.gate_vcd.specs.Inner.Bundles.{with_stops}
use Rattle.net_waves.specs.Waves.{lists_in}
use Rattle.gate_vcd.proofs.bundles.settle_stops.Given as goal

-- the stops so far
abbrev pub invariant-loop-stop : goal.invariant-loop-stop
invariant-loop-stop l = record {
  long : length l.lists.items ≡ length l.fn.lists.items;
  put : lists_in l.lists.items ≡ with_stops l.bundle (take l.stop-index l.waiting) (lists_in l.fn.lists.items);
}
