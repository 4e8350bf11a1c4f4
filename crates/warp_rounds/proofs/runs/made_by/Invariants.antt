use Rattle.std.proofs.Common.{◌≡◌, ◌≤◌, vec_len}
use Rattle.warp_rounds.proofs.runs.made_by.Given as goal

abbrev pub invariant-loop : goal.invariant-loop
invariant-loop g l = record {
  count : vec_len l.made ≡ l.counter;
  end : l.end ≡ l.cut.blocks;
  few : l.end ≤ 1024;
}
