use Rattle.std.proofs.Common.{◌≡◌, take}
use Rattle.gate_netlist.specs.Circuit.{nets_of}
use Rattle.only_nets.specs.Marks.{marks}
use Rattle.only_nets.proofs.marks.outputs_of.Given as goal

-- the outputs so far
abbrev pub invariant-loop-net : goal.invariant-loop-net
invariant-loop-net l = l.all.items ≡ marks (nets_of l.circuit) (take l.net-index l.circuit.outputs)
