use Rattle.std.proofs.Common.{◌≡◌, ◌+◌}
use Rattle.warp_part.specs.Inner.Uses.{AreMerged}
use Rattle.warp_part.proofs.part.merge.merged.Given as goal

abbrev pub invariant-loop : goal.invariant-loop
invariant-loop l = record {
  merged : AreMerged l.own l.marks l.others l.places.own l.places.other l.nets.items l.used.items;
  count : l.places.own + l.places.other ≡ l.counter;
}
