use Rattle.std.proofs.Common.{take}
use Rattle.warp_stores.specs.Dated.{at}
use Rattle.warp_stores.specs.Lists.{AreLonger}
use Rattle.warp_stores.specs.Shown.Lists.{lists_of}
use Rattle.warp_stores.specs.Inner.Spans.{words_within}
use Rattle.warp_stores.proofs.spans.push_within.Given as goal

abbrev pub invariant-loop-word : goal.invariant-loop-word
invariant-loop-word l = AreLonger (words_within l.from l.to (at l.time (take l.word-index l.words))) (lists_of l.initial.lists.items) (lists_of l.lists.items)
