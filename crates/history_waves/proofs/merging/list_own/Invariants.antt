use Rattle.std.proofs.Common.{take}
use Rattle.warp_stores.specs.Dated.{at}
use Rattle.history_waves.specs.Inner.Pending.{AreOwnMoves}
use Rattle.history_waves.proofs.merging.list_own.Given as goal

-- what some of the words tell is listed
abbrev pub invariant-loop-word : goal.invariant-loop-word
invariant-loop-word l = AreOwnMoves l.own (at l.time (take l.word-index l.words)) l.time l.fn.moves.items l.moves.items
