use Rattle.std.proofs.Common.{◌<◌, ◌≡◌, ap, length, get_or, arith, take}
use Rattle.gate_netlist.specs.Circuit.{nets_of}
use Rattle.only_nets.proofs.Marking.{length-marks, marks-next}
use Rattle.only_nets.proofs.marks.outputs_of.Goals as goal

pub index_mut-requires : goal.index_mut-requires
index_mut-requires c =
    let outputs = c.args.circuit.now.outputs in
    let within : c.loop-net.net-index < length outputs = omega (arith, c.loop-net-test.true, ap length c.outputs-net-items.ensures) in
    let known : get_or outputs c.loop-net.net-index 0 < nets_of c.args.circuit.now = c.law.ensures.outputs c.loop-net.net-index 0 within in
    let same : get_or c.outputs-net-items.result.now c.loop-net.net-index 0 ≡ get_or outputs c.loop-net.net-index 0 = ap (λ ns. get_or ns c.loop-net.net-index 0) c.outputs-net-items.ensures in
    omega (arith, known, same, ap length c.loop-net.invariant, length-marks (nets_of c.args.circuit.now) (take c.loop-net.net-index outputs))

pub loop-net-preserved : goal.loop-net-preserved
loop-net-preserved c =
    let outputs = c.args.circuit.now.outputs in
    let within : c.loop-net.net-index < length outputs = omega (arith, c.loop-net-test.true, ap length c.outputs-net-items.ensures) in
    let known : get_or outputs c.loop-net.net-index 0 < nets_of c.args.circuit.now = c.law.ensures.outputs c.loop-net.net-index 0 within in
    rw (c.outputs-net-items.ensures, c.loop-net.invariant) (marks-next (nets_of c.args.circuit.now) outputs c.loop-net.net-index 0 within known)
