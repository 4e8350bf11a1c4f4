use Rattle.std.proofs.Common.{arith, inr, sym}
use Rattle.gate_netlist.specs.Lines.{lines_of}
use Rattle.gate_netlist.specs.Passes.{lines_after}
use Rattle.gate_netlist.proofs.Accepting.{line_counted}
use Rattle.warp_core.specs.Schedule.{events_from}
use Rattle.warp_core.proofs.Scheduling.{all_of_text, line_read, line_refused, all_read}
use Rattle.warp_core.proofs.schedule.read_schedule.Goals as goal

pub loop-rest-init : goal.loop-rest-init
loop-rest-init c = record {
  so_far = rw c.new-events.ensures.items (all_of_text (events_from 1 (lines_of c.args.text.now)));
  counted = omega arith;
}

pub returns-in-Err : goal.returns-in-Err
returns-in-Err c =
    inr (line_refused c.loop-rest.events.items c.loop-rest.number c.next_line.result.0.now (lines_after c.next_line.result.1) c.in-Err.cause _ (sym c.in-Err.ensures)
    (rw (c.in-Some.is, c.next_line.ensures.lines) at c.loop-rest.invariant.so_far))

pub loop-rest-preserved : goal.loop-rest-preserved
loop-rest-preserved c = record {
  so_far = rw c.in_ok-push_event-in-Ok.ensures (line_read c.loop-rest.events.items c.loop-rest.number c.next_line.result.0.now (lines_after c.next_line.result.1) c.in-Ok.event _ (sym c.in-Ok.ensures)
      (rw (c.in-Some.is, c.next_line.ensures.lines) at c.loop-rest.invariant.so_far));
  counted = line_counted c.loop-rest.number c.in-Some.text c.next_line.result.1 _ c.next_line.ensures.shorter (rw c.in-Some.is at c.loop-rest.invariant.counted);
}

pub returns : goal.returns
returns c = all_read c.loop-rest.events.items c.loop-rest.number _ (rw c.in_default.is at c.loop-rest.invariant.so_far)
