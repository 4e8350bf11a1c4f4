use Rattle.std.proofs.Common.{rules, ◌∙◌, refl}
use Rattle.toml.specs.View.{table_view}
use Rattle.gate_netlist.specs.Causes.{lacks_clock}
use Rattle.gate_netlist.proofs.settings.causes.some_lacks_clock.Goals as goal

pub returns : goal.returns
returns c =
    c.any_net.ensures (lacks_clock c.args.bench.now (table_view c.args.table.now)) (λ k d r e. search rules)
    ∙ rw (c.as_slice.ensures.keys, c.as_slice-2.ensures.value, ← c.bench.view_is) refl
