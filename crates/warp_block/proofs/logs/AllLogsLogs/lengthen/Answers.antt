use Rattle.std.proofs.Common.{◌≡◌, List, length, sym, subst}
use Rattle.gate_values.specs.declared.logic.Change.{Change}
use Rattle.warp_stores.specs.Lists.{AreLonger}
use Rattle.warp_engine.proofs.Running.{on_ok}
use Rattle.warp_block.proofs.Shortening.{same_longer}
use Rattle.warp_block.proofs.logs.AllLogsLogs.lengthen.Goals as goal

pub returns-clause-ok : goal.returns-clause-ok
returns-clause-ok c =
    on_ok c.log_more.result (AreLonger c.args.batch.now c.args.self.now.lists c.log_more.new.lists)
    ((logs more : List (List Change)) → length logs ≡ length c.args._part.now.nets → c.args.self.now.lists ≡ logs → AreLonger c.args.batch.now logs more → c.log_more.new.lists ≡ more)
    (λ longer logs more many kept too. same_longer c.args.batch.now c.args.self.now.lists c.log_more.new.lists more longer (subst (λ (ls : List (List Change)). AreLonger c.args.batch.now ls more) (sym kept) too))
    c.log_more.ensures.ok
