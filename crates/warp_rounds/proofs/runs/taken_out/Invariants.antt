use Rattle.std.proofs.Common.{◌≡◌, ◌+◌, All, length}
use Rattle.std.specs.Vec.Iter.{into_iter_items}
use Rattle.warp_process.specs.Lawful.{IsLawfulProcess}
use Rattle.warp_rounds.specs.Counts.{AreCounted}
use Rattle.warp_rounds.proofs.runs.taken_out.Given as goal

abbrev pub invariant-loop-site : goal.invariant-loop-site
invariant-loop-site g l = record {
  can_next : (goal.iterator-loop-site g).can_next l.site-iterator;
  is_finite : (goal.iterator-loop-site g).is_finite l.site-iterator;
  count : length l.parted.blocks.items + length (into_iter_items l.site-iterator) ≡ length l.fn.sites.items;
  lawful : All IsLawfulProcess l.parted.blocks.items;
  counted : AreCounted l.parted.blocks.items l.parted.counts.items;
}
