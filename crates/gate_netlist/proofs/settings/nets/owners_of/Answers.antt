use Rattle.std.proofs.Common.{rules, string_bytes}
use Rattle.std.proofs.lemmas.Iterator.{YieldsList-from_slice, YieldsList-from_zip, YieldsList-from_map, items_from_collect}
use Rattle.std.proofs.lemmas.Iterator.Consumers.{YieldsList-at}
use Rattle.toml.specs.View.{table_view}
use Rattle.gate_netlist.specs.Settings.{net_block}
use Rattle.gate_netlist.proofs.SettingNets.{map-zip-names}
use Rattle.gate_netlist.proofs.settings.nets.owners_of.Goals as goal

pub returns : goal.returns
returns c =
    rw (← map-zip-names (net_block (table_view c.args.blocks.now)) c.args.names.now c.args.definitions.now)
    (items_from_collect c.collect.result c.collect.ensures.ran
    (YieldsList-from_map _ (λ net. net_block (table_view c.args.blocks.now) (string_bytes net.0) net.1)
    (YieldsList-at c.map.ensures.source (YieldsList-from_zip (YieldsList-from_slice c.args.names.now (search rules)) (YieldsList-from_slice c.args.definitions.now (search rules)))) c.map.ensures.closure (λ x r q k. search rules)))
