use Rattle.std.proofs.Common.{◌≡◌}
use Rattle.warp_stores.specs.Shown.Lists.{lists_of}
use Rattle.warp_stores.proofs.room.widen_all.Given as goal

abbrev pub invariant-loop-place : goal.invariant-loop-place
invariant-loop-place l = lists_of l.lists.items ≡ lists_of l.initial.lists.items
