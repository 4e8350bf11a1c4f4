use Rattle.std.proofs.Common.{◌≡◌, length, arith}
use Rattle.warp_stores.proofs.Delaying.{forgotten_due, written}
use Rattle.warp_stores.proofs.delays.Delays.forget_below.Goals as goal

pub invariant_of-self : goal.invariant_of-self
invariant_of-self c =
    let value : c.deref_mut-queue-items.result.now ≡ c.self.inside.queues.items = c.deref_mut-queue-items.ensures.value in
    let same : length c.loop-queue.queue-items ≡ length c.self.inside.queues.items = rw value at c.loop-queue.invariant.same in
    rw (written c.self.inside.queues.len c.loop-queue.queue-items c.self.inside.queues.items same (omega (arith, c.self.inside.queues.ok.0)))
    (forgotten_due c.args.time c.self.inside.queues.items c.loop-queue.queue-items c.self.inside.due c.loop-queue.queue-index (rw value at c.loop-queue.invariant) (omega (arith, c.loop-queue-test.false)) c.self.invariant)
