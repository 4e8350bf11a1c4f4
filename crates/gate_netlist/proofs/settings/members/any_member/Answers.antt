use Rattle.std.proofs.Common.{rules, tests, ◌∙◌, string_bytes}
use Rattle.std.proofs.lemmas.Iterator.Consumers.{YieldsList-from_first}
use Rattle.std.proofs.lemmas.Iterator.Search.{any_from_yields_List}
use Rattle.std.specs.Map.Iter.{deref_pair}
use Rattle.toml.specs.View.{view}
use Rattle.gate_netlist.proofs.Members.{any_entry}
use Rattle.gate_netlist.proofs.settings.members.any_member.Goals as goal

pub returns : goal.returns
returns g c p decides =
    any_from_yields_List (λ e. p (string_bytes e.0) (view e.1)) _ _ c.any.result c.any.ensures.ran
    (YieldsList-from_first deref_pair _ _ c.iter.ensures.rest) (λ x b q k. search (rules, tests, decides))
    ∙ any_entry p c.args.table.now.entries
