use Rattle.std.proofs.Common.{◌≤◌, ◌-◌}
use Rattle.warp_process.proofs.Settling.{AreSettledUntil}
use Rattle.warp_process.proofs.heard.Heard.are_settled.Given as goal

abbrev pub invariant-loop-from : goal.invariant-loop-from
invariant-loop-from l = record {
  past : l.self.floor ≤ l.from;
  settled : AreSettledUntil l.self l.end l.from;
}

abbrev pub decreases-loop-from : goal.decreases-loop-from
decreases-loop-from l = l.end - l.from
