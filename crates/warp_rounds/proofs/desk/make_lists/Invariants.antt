use Rattle.std.proofs.Common.{◌≤◌, vec_len}
use Rattle.warp_rounds.proofs.desk.make_lists.Given as goal

abbrev pub invariant-loop : goal.invariant-loop
invariant-loop l = l.counter ≤ vec_len l.lists
