use Rattle.std.proofs.Common.{◌∙◌, ap, sym, arith, nat_lt}
use Rattle.std.proofs.lemmas.Bool.Decides.{nat_tests}
use Rattle.std.specs.Str.{bytes_eq}
use Rattle.gate_netlist.specs.Circuit.{name_of, nets_of}
use Rattle.gate_vcd.specs.Inner.Scalars.{is_net}
use Rattle.gate_vcd.proofs.InputLaws.{both_true, found-here, found-net}
use Rattle.gate_vcd.proofs.inputs.net_of.Goals as goal

pub returns-then-has_name-clause-found : goal.returns-then-has_name-clause-found
returns-then-has_name-clause-found c net l u =
    let (within, named) = both_true (nat_lt c.args.next (nets_of c.args.circuit.now)) (bytes_eq c.args.name.now (name_of c.args.circuit.now c.args.next)) (sym c.has_name.ensures ∙ c.if-has_name.true) in
    found-net c.args.circuit.now c.law.ensures c.args.name.now net l ∙ ap (λ o. is_net o net) (found-here c.args.circuit.now c.law.ensures c.args.name.now c.args.next (grind (arith, nat_tests, within)) named)
