use Rattle.std.proofs.Common.{take}
use Rattle.warp_stores.specs.Dated.{at}
use Rattle.warp_stores.specs.Lists.{AreLonger}
use Rattle.warp_stores.specs.Shown.Lists.{lists_of}
use Rattle.warp_stores.proofs.lists.push_all.Given as goal

abbrev pub invariant-loop-pushed : goal.invariant-loop-pushed
invariant-loop-pushed l = AreLonger (at l.time (take l.pushed l.words)) (lists_of l.initial.lists.items) (lists_of l.lists.items)
