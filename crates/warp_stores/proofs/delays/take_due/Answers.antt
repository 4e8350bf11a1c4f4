use Rattle.std.proofs.Common.{arith, refl}
use Rattle.std.proofs.lemmas.List.{length-set}
use Rattle.warp_stores.specs.Delays.{due_by}
use Rattle.warp_stores.proofs.Delaying.{taken_start, taken_more}
use Rattle.warp_stores.proofs.delays.take_due.Goals as goal

pub loop-place-init : goal.loop-place-init
loop-place-init c = taken_start c.args.time c.args.queues.now.items c.args.due.now c.args.out.now.items c.first-place.result c.requires.due c.first-place.ensures.within c.first-place.ensures.passed

pub loop-place-smaller : goal.loop-place-smaller
loop-place-smaller c =
    let t =
    taken_more c.args.time c.args.queues.now.items c.loop-place.queues.items c.loop-place.due c.set.new.self c.args.out.now.items c.loop-place.out.items c.take_by.new.out.items (due_by c.args.time c.index_mut-queue.result.now) c.loop-place.place c.due.result c.first-place-in-loop-place.result c.index_mut-queue.result.now c.take_by.new.self
    c.requires.time c.loop-place.invariant (omega (arith, c.loop-place-test.true, c.len.ensures)) c.index_mut-queue.ensures.value refl c.in_ok-take_by.ensures.out c.in_ok-take_by.ensures.read c.due.ensures c.set.ensures c.first-place-in-loop-place.ensures.within c.first-place-in-loop-place.ensures.passed c.first-place-in-loop-place.ensures.found in
    omega (arith, t.0, c.loop-place-test.true, c.len.ensures, length-set c.loop-place.queues.items c.loop-place.place c.take_by.new.self)

pub loop-place-preserved : goal.loop-place-preserved
loop-place-preserved c =
    (taken_more c.args.time c.args.queues.now.items c.loop-place.queues.items c.loop-place.due c.set.new.self c.args.out.now.items c.loop-place.out.items c.take_by.new.out.items (due_by c.args.time c.index_mut-queue.result.now) c.loop-place.place c.due.result c.first-place-in-loop-place.result c.index_mut-queue.result.now c.take_by.new.self
    c.requires.time c.loop-place.invariant (omega (arith, c.loop-place-test.true, c.len.ensures)) c.index_mut-queue.ensures.value refl c.in_ok-take_by.ensures.out c.in_ok-take_by.ensures.read c.due.ensures c.set.ensures c.first-place-in-loop-place.ensures.within c.first-place-in-loop-place.ensures.passed c.first-place-in-loop-place.ensures.found).1
