use Rattle.std.proofs.Common.{◌<◌, List, length, set, ap, sym, ◌∙◌, subst}
use Rattle.warp_stores.specs.Delays.{Delayed}
use Rattle.warp_stores.proofs.Delaying.{due_set, due_set_same}
use Rattle.warp_stores.proofs.delays.Delays.put_first.Goals as goal

pub invariant_of-self-then-first : goal.invariant_of-self-then-first
invariant_of-self-then-first c =
    c.set.ensures ∙ ap (set c.self.inside.due c.args.queue) c.due.ensures ∙ due_set c.self.inside.queues.items c.self.inside.due c.args.queue c.put.new.self c.self.invariant

pub invariant_of-self-else-first : goal.invariant_of-self-else-first
invariant_of-self-else-first c =
    due_set_same c.self.inside.queues.items c.self.inside.due c.args.queue c.index_mut-line.result.now c.put.new.self (subst (λ (xs : List Delayed). c.args.queue < length xs) (sym c.self.view_is) c.requires.queue) c.self.invariant c.index_mut-line.ensures.value
    (c.in_ok-put.ensures.due (sym c.is_read-first.ensures ∙ c.if-first.false))
