use Rattle.std.proofs.Common.{◌≡◌, ◌∙◌, true, is_some, map, sym, ap, string_bytes}
use Rattle.std.specs.Str.{bytes_eq}
use Rattle.toml.specs.View.{table_view}
use Rattle.gate_netlist.specs.Netlist.{any_net}
use Rattle.gate_netlist.specs.Settings.{takes_clock}
use Rattle.gate_netlist.proofs.Positions.{position-map}
use Rattle.gate_netlist.proofs.settings.parts.with_clock.Goals as goal

pub returns-in-Some : goal.returns-in-Some
returns-in-Some c =
    let taken : any_net (takes_clock (table_view c.args.table.now)) (map string_bytes c.args.parts.names.keys) c.args.parts.definitions.items ≡ true =
    rw (← c.as_slice.ensures.keys, ← c.as_slice-2.ensures.value) (sym c.if-not-some_takes_clock.ensures) in
    rw (taken, ← c.clock_name-name.ensures, position-map (λ other. bytes_eq c.clock_name-name.result.now other) string_bytes c.args.parts.names.keys, ← c.get_index_of.ensures.index, c.in-Some.is)

pub add_input-requires : goal.add_input-requires
add_input-requires c = sym c.get_index_of.ensures.found ∙ ap is_some c.in-None.is

pub returns-in-None : goal.returns-in-None
returns-in-None c =
    let taken : any_net (takes_clock (table_view c.args.table.now)) (map string_bytes c.args.parts.names.keys) c.args.parts.definitions.items ≡ true =
    rw (← c.as_slice.ensures.keys, ← c.as_slice-2.ensures.value) (sym c.if-not-some_takes_clock.ensures) in
    rw (taken, ← c.clock_name-name.ensures, position-map (λ other. bytes_eq c.clock_name-name.result.now other) string_bytes c.args.parts.names.keys, ← c.get_index_of.ensures.index, c.in-None.is) c.add_input.ensures
