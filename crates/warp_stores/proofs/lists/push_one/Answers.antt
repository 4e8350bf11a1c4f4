use Rattle.std.proofs.Common.{◌∙◌, ◌<◌, [], ◌∷◌, ◌++◌, length, ap, arith}
use Rattle.gate_values.specs.declared.logic.Logic.{Logic}
use Rattle.warp_stores.proofs.Listing.{longer_push, same_again, on_err_fact}
use Rattle.warp_stores.proofs.lists.push_one.Goals as goal

pub returns-in_err-push-clause-err : goal.returns-in_err-push-clause-err
returns-in_err-push-clause-err c =
    let within : c.place-place.result < length c.args.lists.now.items = omega (arith, c.place-place.ensures.place, c.requires) in
    on_err_fact c.from_residual.result (same_again c.args.lists.now.items c.place-place.result c.index_mut.result.now c.push.new.self within c.index_mut.ensures.value c.in_err-push.ensures.items)

pub returns-clause-ok : goal.returns-clause-ok
returns-clause-ok c =
    longer_push c.args.time c.args.word c.args.lists.now.items c.place-place.result c.index_mut.result.now c.push.new.self c.place-place.ensures.place c.requires c.index_mut.ensures.value
    (c.in_ok-push.ensures.items ∙ ap (λ (v : Logic). c.index_mut.result.now.items ++ record { time = c.args.time; value = v } ∷ []) c.after.ensures)
