use Rattle.std.proofs.Common.{◌≡◌, ◌<◌, List, length, ap, sym, ◌∙◌, subst}
use Rattle.warp_stores.specs.Delays.{Delayed, due_of}
use Rattle.warp_stores.proofs.Queues.{on_answer}
use Rattle.warp_stores.proofs.Delaying.{due_set_same}
use Rattle.warp_stores.proofs.delays.Delays.put.Goals as goal

pub invariant_of-self-2 : goal.invariant_of-self-2
invariant_of-self-2 c =
    let joins = c.join.ensures.due (sym c.is_read.ensures ∙ c.if-is_read.false) in
    let same : due_of c.join.new.self ≡ due_of c.index_mut-line.result.now =
    on_answer c.join.result joins joins c.join.ensures.stays c.join.ensures.stays (λ due _. due) (λ stays _. ap due_of stays) in
    due_set_same c.self.inside.queues.items c.self.inside.due c.args.queue c.index_mut-line.result.now c.join.new.self (subst (λ (xs : List Delayed). c.args.queue < length xs) (sym c.self.view_is) c.requires.queue) c.self.invariant c.index_mut-line.ensures.value same
