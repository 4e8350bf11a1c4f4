use Rattle.gate_vcd.proofs.Bundling.{waits-in}
use Rattle.gate_vcd.proofs.bundles.wait.Goals as goal

pub returns-clause-ok : goal.returns-clause-ok
returns-clause-ok c = waits-in c.args.waiting.now.items c.index_mut.result.now c.push.new.self c.args.number c.args.change c.requires.within c.index_mut.ensures.value c.in_ok-push.ensures.items
