use Rattle.std.proofs.Common.{rules, string_bytes}
use Rattle.std.proofs.lemmas.Iterator.{YieldsList-from_slice, YieldsList-from_zip, YieldsList-from_map, items_from_collect}
use Rattle.std.proofs.lemmas.Iterator.Consumers.{YieldsList-at}
use Rattle.toml.specs.View.{table_view}
use Rattle.gate_netlist.specs.Inner.Kinds.{members_in, delay_among}
use Rattle.gate_netlist.proofs.SettingNets.{delays_are}
use Rattle.gate_netlist.proofs.settings.nets.delays_of.Goals as goal

pub returns : goal.returns
returns c =
    rw (← delays_are (table_view c.args.table.now) c.table_at-nets.result c.kind_delays-kinds.result c.args.names.now c.args.definitions.now c.table_at-nets.ensures c.kind_delays-kinds.ensures)
    (items_from_collect c.collect.result c.collect.ensures.ran
    (YieldsList-from_map _ (λ net. delay_among (members_in c.table_at-nets.result) c.kind_delays-kinds.result (string_bytes net.0) net.1)
    (YieldsList-at c.map.ensures.source (YieldsList-from_zip (YieldsList-from_slice c.args.names.now (search rules)) (YieldsList-from_slice c.args.definitions.now (search rules)))) c.map.ensures.closure (λ x r q k. search rules)))
