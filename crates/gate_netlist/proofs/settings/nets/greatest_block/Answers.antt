use Rattle.std.proofs.Common.{rules, ◌∙◌, max, unwrap_or, arith}
use Rattle.std.proofs.lemmas.Iterator.Consumers.{YieldsList-from_rest, fold_from_yields_List}
use Rattle.toml.specs.View.{view}
use Rattle.gate_netlist.specs.Settings.{as_block}
use Rattle.gate_netlist.proofs.SettingNets.{fold-greatest_block}
use Rattle.gate_netlist.proofs.settings.nets.greatest_block.Goals as goal

pub returns : goal.returns
returns c =
    fold_from_yields_List _ (λ greatest value. max greatest (unwrap_or (as_block (view value)) 0)) 0 c.fold.result c.fold.ensures.ran (YieldsList-from_rest _ c.values.ensures.rest) (λ a x b q k. search rules)
    ∙ fold-greatest_block c.args.blocks.now.entries 0
    ∙ omega arith
