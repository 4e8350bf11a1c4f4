use Rattle.std.proofs.Common.{◌≡◌, take}
use Rattle.warp_stores.specs.Shown.Lists.{lists_of}
use Rattle.warp_stores.proofs.lists.copies.Given as goal

-- so many lists are copied
abbrev pub invariant-loop-list : goal.invariant-loop-list
invariant-loop-list l = lists_of l.copies.items ≡ lists_of (take l.list-index l.lists)
