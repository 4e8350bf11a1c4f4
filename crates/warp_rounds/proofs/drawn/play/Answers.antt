use Rattle.std.proofs.Common.{length}
use Rattle.std.proofs.lemmas.Result.{err_from_is_err_and}
use Rattle.warp_rounds.proofs.Working.{visit_fault, delivery_fault, one_visit}
use Rattle.warp_rounds.proofs.drawn.play.Goals as goal

pub returns-in_err-turned-clause-fault : goal.returns-in_err-turned-clause-fault
returns-in_err-turned-clause-fault g c =
    let p = err_from_is_err_and c.from_residual.result c.from_residual.ensures.1 in
    rw (p.1, p.2) (visit_fault _ c.args.floor c.args.window _ c.in_err-turned.field-0.0 (rw c.clear.ensures.items at c.in_err-turned.ensures.fault))

pub returns-clause-visits : goal.returns-clause-visits
returns-clause-visits g c = one_visit _ _ _ _ (rw c.clear.ensures.items at c.in_ok-turned.ensures.visit)

pub returns-in_err-deliver-clause-fault : goal.returns-in_err-deliver-clause-fault
returns-in_err-deliver-clause-fault g c =
    let p = err_from_is_err_and c.from_residual-in_err-deliver.result c.from_residual-in_err-deliver.ensures.1 in
    rw (p.1, p.2) (delivery_fault (length c.args.sites.now) c.args.floor c.args.window _ _ c.in_err-deliver.field-0.0 (rw c.clear.ensures.items at c.in_ok-turned.ensures.visit) c.in_err-deliver.ensures.fault)
