use Rattle.gate_vcd.specs.Shown.Commands.{variables}
use Rattle.gate_vcd.specs.Shown.Known.{sources_by}
use Rattle.std.proofs.Common.{take, arith}
use Rattle.gate_vcd.proofs.InputLaws.{below-refused, found-next, found-start}
use Rattle.gate_vcd.proofs.inputs.inputs_of.Goals as goal

pub loop-net-init : goal.loop-net-init
loop-net-init c = found-start c.args.circuit.now (variables c.args.all.now) c.in_ok-sources.sources.items c.in_ok-sources.ensures.ok

pub loop-net-preserved : goal.loop-net-preserved
loop-net-preserved c =
    found-next c.args.circuit.now (variables c.args.all.now) c.loop-net.net c.loop-net.sources.items c.in-Ok.source (omega (arith, c.loop-net-test.true, c.nets-net-end.ensures.count)) c.loop-net.invariant (rw c.in_ok-given.ensures.all at c.in-Ok.ensures)

pub returns-in-Err-clause-ok : goal.returns-in-Err-clause-ok
returns-in-Err-clause-ok c =
    rw (← c.nets-net-end.ensures.count) (below-refused c.args.circuit.now (variables c.args.all.now) c.loop-net.net c.nets-net-end.result _ (sources_by (take c.loop-net.net c.loop-net.sources.items)) c.loop-net-test.true c.loop-net.invariant.below (rw c.in_ok-given.ensures.all at c.in-Err.ensures))
