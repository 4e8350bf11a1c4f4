use Rattle.std.proofs.Common.{List, ◌++◌}
use Rattle.std.specs.Vec.Iter.{into_iter_items}
use Rattle.history_waves.specs.Stories.{Telling}
use Rattle.warp_core.specs.Inner.Gather.{AreStories}
use Rattle.warp_core.proofs.gathering.changes.stories_of.Given as goal

-- with those of the blocks that are left the stories are those of all
abbrev pub invariant-loop-block : goal.invariant-loop-block
invariant-loop-block g l = record {
  can_next : (goal.iterator-loop-block g).can_next l.block-iterator;
  is_finite : (goal.iterator-loop-block g).is_finite l.block-iterator;
  left : (rest : List Telling) → AreStories (into_iter_items l.block-iterator) rest → AreStories l.fn.blocks.items (l.stories.items ++ rest);
}
