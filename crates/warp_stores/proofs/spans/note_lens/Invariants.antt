use Rattle.std.proofs.Common.{◌≡◌, length, map, take}
use Rattle.warp_stores.specs.Shown.Lists.{lists_of}
use Rattle.warp_stores.proofs.spans.note_lens.Given as goal

abbrev pub invariant-loop-list : goal.invariant-loop-list
invariant-loop-list l = l.lens.items ≡ map length (lists_of (take l.list-index l.lists))
