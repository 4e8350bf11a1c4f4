use Rattle.std.proofs.Common.{◌≡◌, ◌+◌, ◌≤◌, All, length, vec_capacity}
use Rattle.warp_rounds.specs.Inner.Crew.{IsOfRun}
use Rattle.warp_rounds.proofs.runs.fn.play_rounds.scope.Given as goal

-- each worker that has started is of the run
abbrev pub invariant-loop-place : goal.invariant-loop-place
invariant-loop-place g l = record {
  count : length l.handles.items + 1 ≡ l.place;
  within : l.place ≤ l.place-end;
  end : l.place-end ≡ l.term.workers;
  room : l.term.workers ≤ vec_capacity l.handles;
  promised : All (IsOfRun l.term) l.handles.items;
}
