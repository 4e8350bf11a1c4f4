use Rattle.std.proofs.Common.{List, sym, subst, ◌∙◌}
use Rattle.warp_stores.specs.Delays.{Delayed, AreReadUpTo}
use Rattle.warp_stores.proofs.Delaying.{some_back}
use Rattle.warp_stores.proofs.delays.Delays.take_due.Goals as goal

pub returns-in-Err-clause-err : goal.returns-in-Err-clause-err
returns-in-Err-clause-err c =
    c.put_back.ensures
    ∙ some_back c.args.time c.self.inside.queues.items c.take_due.new.queues.items (subst (λ (qs : List Delayed). AreReadUpTo c.args.time qs) (sym c.self.view_is) c.requires.read) c.in-Err.ensures.some
    ∙ c.self.view_is
