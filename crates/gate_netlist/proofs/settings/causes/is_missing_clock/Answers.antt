use Rattle.std.proofs.Common.{not, ap, refl, string_bytes}
use Rattle.std.specs.Str.{bytes_eq}
use Rattle.gate_netlist.proofs.Positions.{position-map}
use Rattle.gate_netlist.proofs.settings.causes.is_missing_clock.Goals as goal

pub returns-in-Some : goal.returns-in-Some
returns-in-Some c = rw (← c.bench.view_is, position-map (λ other. bytes_eq c.args.name.now other) string_bytes c.bench.inside.names.keys, ← c.get_index_of.ensures.index, c.in-Some.is) refl

pub returns-in-None : goal.returns-in-None
returns-in-None c = rw (← c.bench.view_is, position-map (λ other. bytes_eq c.args.name.now other) string_bytes c.bench.inside.names.keys, ← c.get_index_of.ensures.index, c.in-None.is) (ap not c.may_be_added.ensures)
