use Rattle.std.proofs.Common.{rules, map, string_bytes}
use Rattle.std.proofs.lemmas.Iterator.{YieldsList-from_slice, YieldsList-from_zip, YieldsList-from_map, items_from_collect}
use Rattle.std.proofs.lemmas.Iterator.Adapters.{YieldsList-from_vec}
use Rattle.std.proofs.lemmas.Iterator.Consumers.{YieldsList-at}
use Rattle.toml.specs.View.{table_view}
use Rattle.gate_netlist.specs.Meaning.{driver_by}
use Rattle.gate_netlist.proofs.SettingNets.{map-zip-names}
use Rattle.gate_netlist.proofs.circuit.build.drivers_of.Goals as goal

pub returns : goal.returns
returns c =
    rw (← map-zip-names (driver_by (table_view c.args.table.now) (map string_bytes c.args.names.now.keys)) c.args.names.now.keys c.args.definitions.items)
    (items_from_collect c.collect.result c.collect.ensures.ran
    (YieldsList-from_map _ (λ net. driver_by (table_view c.args.table.now) (map string_bytes c.args.names.now.keys) (string_bytes net.0) net.1)
    (YieldsList-at c.map.ensures.source (YieldsList-from_zip (YieldsList-from_slice c.args.names.now.keys (search rules)) (YieldsList-from_vec c.args.definitions.items (search rules) (search rules)))) c.map.ensures.closure (λ x r q k. search rules)))
