use Rattle.warp_stores.specs.Shown.Lists.{lists_of}
use Rattle.warp_stores.specs.Inner.Spans.{AreCut}
use Rattle.warp_stores.proofs.spans.cut_all.Given as goal

abbrev pub invariant-loop-place : goal.invariant-loop-place
invariant-loop-place l = AreCut l.place l.lens (lists_of l.initial.lists.items) (lists_of l.lists.items)
