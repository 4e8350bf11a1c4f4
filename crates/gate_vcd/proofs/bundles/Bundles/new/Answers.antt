use Rattle.gate_vcd.proofs.Bundling.{none-are}
use Rattle.gate_vcd.proofs.bundles.Bundles.new.Goals as goal

pub returns-clause-ok : goal.returns-clause-ok
returns-clause-ok c = none-are c.in_ok-none_waiting.field-0.items c.in_ok-empty_lists.field-0.items _ c.args.count c.in_ok-none_waiting.ensures.ok c.in_ok-empty_lists.ensures.ok
