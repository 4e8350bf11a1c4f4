use Rattle.std.proofs.Common.{rules, tests, ◌∙◌, string_bytes}
use Rattle.std.proofs.lemmas.Iterator.{YieldsList-from_slice, YieldsList-from_zip}
use Rattle.std.proofs.lemmas.Iterator.Search.{any_from_yields_List}
use Rattle.gate_netlist.proofs.SettingNets.{any-zip-names}
use Rattle.gate_netlist.proofs.settings.members.any_net.Goals as goal

pub returns : goal.returns
returns g c p decides =
    any_from_yields_List (λ net. p (string_bytes net.0) net.1) c.any.new.self _ c.any.result c.any.ensures.ran (YieldsList-from_zip (YieldsList-from_slice c.args.names.now (search rules)) (YieldsList-from_slice c.args.definitions.now (search rules))) (λ x b q k. search (rules, tests, decides))
    ∙ any-zip-names p c.args.names.now c.args.definitions.now
