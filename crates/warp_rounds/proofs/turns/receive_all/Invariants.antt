use Rattle.std.proofs.Common.{take}
use Rattle.warp_rounds.specs.Counts.{IsCounted}
use Rattle.warp_rounds.specs.Inner.Turn.{HasReceived}
use Rattle.warp_rounds.proofs.turns.receive_all.Given as goal

abbrev pub invariant-loop-message : goal.invariant-loop-message
invariant-loop-message g l = record {
  received : HasReceived l.fn.block.seen l.block.seen l.messages (take l.message-index l.messages) l.fn.out.items l.out.items;
  counted : IsCounted l.block.seen l.counts;
}
