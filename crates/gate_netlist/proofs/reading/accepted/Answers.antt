use Rattle.std.proofs.Common.{[], refl, arith}
use Rattle.gate_netlist.specs.Lines.{lines_of}
use Rattle.gate_netlist.specs.Passes.{lines_after}
use Rattle.gate_netlist.specs.Bench.{accepted}
use Rattle.gate_netlist.specs.Inner.FirstLine.{others_of, first_line}
use Rattle.gate_netlist.specs.Inner.Keys.{names_in}
use Rattle.gate_netlist.specs.Inner.Meant.{meant}
use Rattle.gate_netlist.specs.Inner.Stored.{statements_in}
use Rattle.gate_netlist.proofs.Accepting.{onto_nothing, one_more, named_more, refused_at, all_read, line_counted}
use Rattle.gate_netlist.proofs.FirstLine.{some_line}
use Rattle.gate_netlist.proofs.reading.accepted.Goals as goal

pub loop-rest-init : goal.loop-rest-init
loop-rest-init c = record {
  so_far = rw (c.in_ok-statements.ensures, c.in_ok-names.ensures.empty) (onto_nothing (accepted [] 1 (lines_of c.args.text.now)));
  named = rw (c.in_ok-statements.ensures, c.in_ok-names.ensures.empty) refl;
  counted = omega arith;
}

pub returns-in-Err-clause-gives : goal.returns-in-Err-clause-gives
returns-in-Err-clause-gives c =
    rw c.fault_at.ensures (refused_at (statements_in c.loop-rest.statements) (names_in c.loop-rest.names) c.loop-rest.number (first_line c.in-Some.text.now) (others_of (lines_of c.in-Some.text.now)) c.in-Err.cause _ c.in-Err.ensures.gives (rw (c.in-Some.is, some_line c.in-Some.text.now) at c.loop-rest.invariant.so_far))

pub loop-rest-preserved : goal.loop-rest-preserved
loop-rest-preserved c =
    let said = c.in-Ok.ensures in
    let s = meant c.in-Ok.statement in
    record {
      so_far = rw (said.names, c.in_ok-push-in-Ok.ensures) (one_more (statements_in c.loop-rest.statements) (names_in c.loop-rest.names) c.loop-rest.number (first_line c.in-Some.text.now) (lines_after c.in-Ok.after) s _ said.gives (rw (c.in-Some.is, said.rest) at c.loop-rest.invariant.so_far));
      named = rw c.in_ok-push-in-Ok.ensures (named_more (statements_in c.loop-rest.statements) s _ _ c.loop-rest.invariant.named said.names);
      counted = line_counted c.loop-rest.number c.in-Some.text c.in-Ok.after _ said.shorter (rw c.in-Some.is at c.loop-rest.invariant.counted);
    }

pub returns-clause-gives : goal.returns-clause-gives
returns-clause-gives c = all_read (statements_in c.loop-rest.statements) (names_in c.loop-rest.names) c.loop-rest.number _ (rw c.in_default.is at c.loop-rest.invariant.so_far)
