use Rattle.std.proofs.Common.{◌≡◌, ◌+◌, ◌≤◌, length, map, take}
use Rattle.std.specs.List.{All}
use Rattle.warp_part.specs.declared.cell.Span.{Span}
use Rattle.warp_part.specs.PartOf.{part_readers}
use Rattle.warp_part.specs.Shown.Part.{stretch}
use Rattle.warp_part.proofs.part.readers.readers_of.Given as goal

abbrev pub invariant-loop-net : goal.invariant-loop-net
invariant-loop-net l = record {
  readers : map (stretch l.all.items) l.spans.items ≡ map (part_readers l.circuit l.cut l.block) (take l.net-index l.nets);
  within : All (λ (span : Span). span.start + span.count ≤ length l.all.items) l.spans.items;
}
