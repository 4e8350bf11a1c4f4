use Rattle.std.proofs.Common.{rules}
use Rattle.toml.specs.View.{table_view}
use Rattle.gate_netlist.specs.Settings.{takes_clock}
use Rattle.gate_netlist.proofs.settings.flops.some_takes_clock.Goals as goal

pub returns : goal.returns
returns c = c.any_net.ensures (takes_clock (table_view c.args.table.now)) (λ k d r e. search rules)
