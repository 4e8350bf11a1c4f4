use Rattle.std.proofs.Common.{◌≤◌, take, length}
use Rattle.warp_stores.specs.Dated.{at}
use Rattle.history_waves.specs.Inner.Pending.{AreListed}
use Rattle.history_waves.proofs.merging.list_both.Given as goal

-- so many of the given changes are listed, and what some of the words tell
abbrev pub invariant-loop-word : goal.invariant-loop-word
invariant-loop-word l = (l.from ≤ l.next) × (l.next ≤ length l.given) × AreListed l.own l.given l.from l.next (at l.time (take l.word-index l.words)) l.time l.fn.moves.items l.moves.items
