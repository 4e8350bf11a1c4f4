use Rattle.std.proofs.Common.{◌≡◌, ◌+◌, ◌≤◌, length}
use Rattle.gate_netlist.specs.Passes.{lines_after}
use Rattle.gate_netlist.proofs.Accepting.{text_left}
use Rattle.warp_core.specs.Schedule.{events_from, schedule_of}
use Rattle.warp_core.proofs.Scheduling.{after}
use Rattle.warp_core.proofs.schedule.read_schedule.Given as goal

abbrev pub invariant-loop-rest : goal.invariant-loop-rest
invariant-loop-rest l = record {
  so_far : after l.events.items (events_from l.number (lines_after l.rest)) ≡ schedule_of l.text;
  counted : l.number + text_left l.rest ≤ length l.text + 2;
}

abbrev pub decreases-loop-rest : goal.decreases-loop-rest
decreases-loop-rest l = text_left l.rest
