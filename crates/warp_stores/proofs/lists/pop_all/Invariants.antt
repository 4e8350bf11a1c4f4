use Rattle.std.proofs.Common.{take}
use Rattle.warp_stores.specs.Lists.{AreShorter}
use Rattle.warp_stores.specs.Shown.Lists.{lists_of}
use Rattle.warp_stores.proofs.lists.pop_all.Given as goal

abbrev pub invariant-loop-word : goal.invariant-loop-word
invariant-loop-word l = AreShorter (take l.word-index l.words) (lists_of l.initial.lists.items) (lists_of l.lists.items)
