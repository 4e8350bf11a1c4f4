use Rattle.std.proofs.Common.{◌≤◌, vec_len, take}
use Rattle.warp_rounds.specs.Inner.Work.{AreThere}
use Rattle.warp_rounds.proofs.desk.sort_out.Given as goal

abbrev pub invariant-loop-message : goal.invariant-loop-message
invariant-loop-message l = record {
  room : l.blocks ≤ vec_len l.lists;
  there : AreThere l.blocks (take l.message-index l.messages);
}
