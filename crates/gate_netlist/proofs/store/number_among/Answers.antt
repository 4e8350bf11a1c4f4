use Rattle.std.proofs.Common.{sym, ◌∙◌, string_bytes}
use Rattle.std.specs.Str.{bytes_eq}
use Rattle.std.proofs.lemmas.List.{length-map}
use Rattle.gate_netlist.specs.Inner.Keys.{names_in}
use Rattle.gate_netlist.proofs.Positions.{position-map}
use Rattle.gate_netlist.proofs.Naming.{place_some, place_none}
use Rattle.gate_netlist.proofs.store.number_among.Goals as goal

pub returns-in-Some : goal.returns-in-Some
returns-in-Some c = place_some (λ other. bytes_eq c.args.name.now other) (names_in c.args.names.now) c.in-Some.number (position-map (λ other. bytes_eq c.args.name.now other) string_bytes c.args.names.now.keys ∙ sym c.get_index_of.ensures.index ∙ c.in-Some.is)

pub returns-in-None : goal.returns-in-None
returns-in-None c = c.len.ensures.len ∙ sym (length-map c.args.names.now.keys string_bytes) ∙ place_none (λ other. bytes_eq c.args.name.now other) (names_in c.args.names.now) (position-map (λ other. bytes_eq c.args.name.now other) string_bytes c.args.names.now.keys ∙ sym c.get_index_of.ensures.index ∙ c.in-None.is)
