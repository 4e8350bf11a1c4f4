use Rattle.std.proofs.Common.{◌-◌, length}
use Rattle.warp_stores.specs.Lists.{AreLonger}
use Rattle.warp_stores.specs.Shown.Lists.{lists_of}
use Rattle.warp_stores.specs.Shown.Stops.{dated}
use Rattle.warp_stores.specs.Inner.Spans.{words_within}
use Rattle.warp_stores.proofs.spans.push_spans.Given as goal

abbrev pub invariant-loop-from : goal.invariant-loop-from
invariant-loop-from l = AreLonger (words_within 0 l.from (dated l.stops l.words)) (lists_of l.initial.lists.items) (lists_of l.lists.items)

abbrev pub decreases-loop-from : goal.decreases-loop-from
decreases-loop-from l = length l.lists.items - l.from
