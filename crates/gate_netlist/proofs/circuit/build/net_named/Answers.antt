use Rattle.std.proofs.Common.{◌∙◌, sym, string_bytes}
use Rattle.std.specs.Str.{bytes_eq}
use Rattle.gate_netlist.proofs.Positions.{position-map}
use Rattle.gate_netlist.proofs.circuit.build.net_named.Goals as goal

pub returns-in-Some : goal.returns-in-Some
returns-in-Some c = sym (position-map (λ other. bytes_eq c.args.name.now other) string_bytes c.args.names.now.keys ∙ sym c.get_index_of.ensures.index ∙ c.in-Some.is)

pub returns-in-None : goal.returns-in-None
returns-in-None c = sym (position-map (λ other. bytes_eq c.args.name.now other) string_bytes c.args.names.now.keys ∙ sym c.get_index_of.ensures.index ∙ c.in-None.is)
