use Rattle.std.proofs.Common.{◌≡◌, min, None}
use Rattle.warp_rounds.specs.Inner.Work.{HasPlayed}
use Rattle.warp_rounds.proofs.work.work.Given as goal

abbrev pub invariant-loop : goal.invariant-loop
invariant-loop g l = record {
  can_next : (goal.iterator-loop g).can_next l.iterator';
  is_finite : (goal.iterator-loop g).is_finite l.iterator';
  played : HasPlayed l.round.round l.order.floor l.order.window (record l.worker.seat { least = min l.worker.seat.least l.least });
  well : l.worker.fault ≡ None;
}
