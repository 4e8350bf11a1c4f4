use Rattle.std.proofs.Common.{◌∙◌, ◌<◌, length, ap, arith, string_bytes}
use Rattle.std.specs.Str.{bytes_eq}
use Rattle.std.proofs.lemmas.List.{length-map, get_or_read}
use Rattle.gate_netlist.specs.declared.bench.Definition.TheVariants.{Input}
use Rattle.gate_netlist.specs.Causes.{is_flop_line}
use Rattle.gate_netlist.proofs.Positions.{position-map}
use Rattle.gate_netlist.proofs.settings.causes.is_flop_name.Goals as goal

pub returns-in-Some : goal.returns-in-Some
returns-in-Some c =
    let within : c.in-Some.net < length c.bench.inside.definitions.items =
    omega (arith, c.in-Some.ensures.within, c.bench.invariant.definitions, length-map c.bench.inside.names.keys string_bytes) in
    rw (← c.bench.view_is, position-map (λ other. bytes_eq c.args.name.now other) string_bytes c.bench.inside.names.keys, ← c.get_index_of.ensures.index, c.in-Some.is)
    (c.is_flop_line.ensures ∙ ap is_flop_line (get_or_read _ _ _ within c.index.ensures Input))

pub returns-in-None : goal.returns-in-None
returns-in-None c = rw (← c.bench.view_is, position-map (λ other. bytes_eq c.args.name.now other) string_bytes c.bench.inside.names.keys, ← c.get_index_of.ensures.index, c.in-None.is)
