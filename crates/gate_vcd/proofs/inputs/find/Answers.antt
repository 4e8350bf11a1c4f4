use Rattle.std.proofs.Common.{◌∙◌, ap, sym}
use Rattle.gate_netlist.specs.Circuit.{net_of}
use Rattle.gate_vcd.specs.Inner.Scalars.{is_net}
use Rattle.gate_vcd.proofs.InputLaws.{found-net}
use Rattle.gate_vcd.proofs.inputs.find.Goals as goal

pub returns-in-Ok-clause-found : goal.returns-in-Ok-clause-found
returns-in-Ok-clause-found c net l u = found-net c.args.circuit.now c.law.ensures c.args.name.now net l ∙ ap (λ o. is_net o net) (sym (c.find.ensures ∙ ap (net_of c.args.circuit.now) c.in-Ok.ensures.cases.0))
