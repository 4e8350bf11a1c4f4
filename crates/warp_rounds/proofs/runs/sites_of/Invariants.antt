use Rattle.std.proofs.Common.{◌≡◌, ◌+◌, ◌≤◌, All, IfSome, vec_len, length}
use Rattle.std.specs.Vec.Iter.{into_iter_items}
use Rattle.warp_rounds.specs.Inner.Work.{AreThere}
use Rattle.warp_rounds.proofs.runs.sites_of.Given as goal

-- what is made and isn't a site yet is for blocks of the cut, and so is what is to be delivered
abbrev pub invariant-loop-made : goal.invariant-loop-made
invariant-loop-made g l = record {
  can_next : (goal.iterator-loop-made g).can_next l.made-iterator;
  is_finite : (goal.iterator-loop-made g).is_finite l.made-iterator;
  count : vec_len l.sites + length (into_iter_items l.made-iterator) ≡ l.cut.blocks;
  few : l.cut.blocks ≤ 1024;
  left : All (λ one. IfSome one (λ made. AreThere l.cut.blocks made.sent.items)) (into_iter_items l.made-iterator);
  there : AreThere l.cut.blocks l.desk.sent.items;
}
