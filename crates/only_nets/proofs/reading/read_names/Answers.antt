use Rattle.std.proofs.Common.{arith, refl, inr, [], ap, ◌∙◌, length}
use Rattle.gate_netlist.specs.Circuit.{nets_of}
use Rattle.gate_netlist.specs.Passes.{lines_after}
use Rattle.gate_netlist.proofs.Accepting.{line_counted}
use Rattle.only_nets.specs.Marks.{marks}
use Rattle.only_nets.proofs.Marking.{length-marks}
use Rattle.only_nets.proofs.Naming.{line_read, line_refused, all_read, marks_read, marks_refused}
use Rattle.only_nets.proofs.reading.read_names.Goals as goal

pub loop-rest-init : goal.loop-rest-init
loop-rest-init c = record {
  so_far = record { nets = []; marked = c.in_ok-all.ensures ∙ ap (λ n. marks n []) c.nets.ensures.count; left = refl };
  counted = omega arith;
}

pub mark_line-requires : goal.mark_line-requires
mark_line-requires c = ap length c.loop-rest.invariant.so_far.marked ∙ length-marks (nets_of c.args.circuit.now) c.loop-rest.invariant.so_far.nets

pub returns-in-Err : goal.returns-in-Err
returns-in-Err c =
    let so_far = c.loop-rest.invariant.so_far in
    let refused = c.in-Err.ensures.marked so_far.nets so_far.marked in
    inr (marks_refused c.args.circuit.now c.args.text.now _ (line_refused c.args.circuit.now so_far.nets c.loop-rest.line c.next_line.result.0.now (lines_after c.next_line.result.1) c.in-Err.cause _ refused
    (rw (c.in-Some.is, c.next_line.ensures.lines) at so_far.left)))

pub loop-rest-preserved : goal.loop-rest-preserved
loop-rest-preserved c =
    let so_far = c.loop-rest.invariant.so_far in
    let more = c.in_default-mark_line.ensures.marked so_far.nets so_far.marked in
    record {
      so_far = record {
        nets = more.0;
        marked = more.2;
        left = line_read c.args.circuit.now so_far.nets more.0 c.loop-rest.line c.next_line.result.0.now (lines_after c.next_line.result.1) _ more.1 (rw (c.in-Some.is, c.next_line.ensures.lines) at so_far.left);
      };
      counted = line_counted c.loop-rest.line c.in-Some.text c.next_line.result.1 _ c.next_line.ensures.shorter (rw c.in-Some.is at c.loop-rest.invariant.counted);
    }

pub returns : goal.returns
returns c =
    let so_far = c.loop-rest.invariant.so_far in
    let read = all_read c.args.circuit.now so_far.nets c.loop-rest.line _ (rw c.in_default.is at so_far.left) in
    rw so_far.marked (marks_read c.args.circuit.now c.args.text.now so_far.nets read)
