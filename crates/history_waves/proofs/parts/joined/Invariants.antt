use Rattle.std.proofs.Common.{◌≡◌, ◌+◌}
use Rattle.std.specs.Vec.Iter.{into_iter_items}
use Rattle.net_waves.specs.declared.timeline.Stop.{Stop}
use Rattle.net_waves.specs.Timeline.{count}
use Rattle.history_waves.specs.Inner.Begins.{stops_of, AreAllTold, count_told}
use Rattle.history_waves.proofs.parts.joined.Given as goal

-- with the parts that are left, all are told, and what is told is that of all
abbrev pub invariant-loop-part : goal.invariant-loop-part
invariant-loop-part l = record {
  can_next : (goal.iterator-loop-part).can_next l.part-iterator;
  is_finite : (goal.iterator-loop-part).is_finite l.part-iterator;
  told : AreAllTold (into_iter_items l.part-iterator) → AreAllTold l.fn.parts.items;
  count : (s : Stop) → count s (stops_of l.all) + count_told s (into_iter_items l.part-iterator) ≡ count_told s l.fn.parts.items;
}
