use Rattle.std.proofs.Common.{◌∙◌, map, length, refl, ◌<◌}
use Rattle.net_waves.proofs.Waving.{in_step-kept, in_step-push, lists-kept, lists-push, on_err}
use Rattle.net_waves.proofs.waves.Waves.push.Goals as goal

pub invariant_of-self : goal.invariant_of-self
invariant_of-self c =
    let kept = lists-kept (λ list. list.items) c.self.inside.lists.items c.args.net c.reserve.new.self c.index_mut.result.now c.index_mut.ensures.value c.reserve.ensures.items in
    in_step-kept _ _ _ _ c.self.invariant kept (λ s. refl)

pub returns-in_err-reserve-clause-err : goal.returns-in_err-reserve-clause-err
returns-in_err-reserve-clause-err c =
    let kept = lists-kept (λ list. list.items) c.self.inside.lists.items c.args.net c.reserve.new.self c.index_mut.result.now c.index_mut.ensures.value c.reserve.ensures.items in
    on_err c.from_residual.result (kept ∙ c.self.view_is)

pub invariant_of-self-in_err-push : goal.invariant_of-self-in_err-push
invariant_of-self-in_err-push c =
    let kept = lists-kept (λ list. list.items) c.self.inside.lists.items c.args.net c.reserve.new.self c.index_mut.result.now c.index_mut.ensures.value c.reserve.ensures.items in
    in_step-kept _ _ _ _ c.self.invariant kept (λ s. c.in_err-push.ensures.err s)

pub returns-in_err-push-clause-err : goal.returns-in_err-push-clause-err
returns-in_err-push-clause-err c =
    let kept = lists-kept (λ list. list.items) c.self.inside.lists.items c.args.net c.reserve.new.self c.index_mut.result.now c.index_mut.ensures.value c.reserve.ensures.items in
    on_err c.from_residual-in_err-push.result (kept ∙ c.self.view_is)

pub invariant_of-self-2 : goal.invariant_of-self-2
invariant_of-self-2 c =
    let kept = lists-kept (λ list. list.items) c.self.inside.lists.items c.args.net c.reserve.new.self c.index_mut.result.now c.index_mut.ensures.value c.reserve.ensures.items in
    let known : c.args.net < length (map (λ list. list.items) c.self.inside.lists.items) = rw c.self.view_is c.requires.known in
    let longer = lists-push (λ list. list.items) c.self.inside.lists.items c.args.net c.reserve.new.self c.index_mut-2.result.now c.push_reserved.new.self c.args.change known kept c.index_mut-2.ensures.value c.push_reserved.ensures.items in
    in_step-push _ _ _ c.args.net c.args.change c.self.invariant known (rw c.self.view_is c.requires.follows) (λ s. c.in_ok-push.ensures.ok s) _ longer

pub returns-clause-ok : goal.returns-clause-ok
returns-clause-ok c =
    let kept = lists-kept (λ list. list.items) c.self.inside.lists.items c.args.net c.reserve.new.self c.index_mut.result.now c.index_mut.ensures.value c.reserve.ensures.items in
    let known : c.args.net < length (map (λ list. list.items) c.self.inside.lists.items) = rw c.self.view_is c.requires.known in
    rw (← c.self.view_is) (lists-push (λ list. list.items) c.self.inside.lists.items c.args.net c.reserve.new.self c.index_mut-2.result.now c.push_reserved.new.self c.args.change known kept c.index_mut-2.ensures.value c.push_reserved.ensures.items)
