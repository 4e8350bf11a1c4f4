use Rattle.std.proofs.Common.{◌≡◌, ◌++◌, take}
use Rattle.warp_stores.specs.Dated.{at}
use Rattle.warp_stores.proofs.batch.list_at.Given as goal

abbrev pub invariant-loop-word : goal.invariant-loop-word
invariant-loop-word g l = l.list.items ≡ l.initial.list.items ++ at l.time (take l.word-index l.words)
