use Rattle.std.proofs.Common.{◌+◌, sym, subst}
use Rattle.part_engine.specs.Inner.Queues.{AreNumbers}
use Rattle.part_engine.proofs.Queueing.{numbers_none, numbers_more}
use Rattle.part_engine.proofs.queued.numbers_of.Goals as goal

pub loop-slot-init : goal.loop-slot-init
loop-slot-init c = subst (AreNumbers c.args.part.now c.args.read.now c.args.unread.now 0) (sym c.in_ok-numbers.ensures.items) (numbers_none c.args.part.now c.args.read.now c.args.unread.now)

pub loop-slot-preserved : goal.loop-slot-preserved
loop-slot-preserved c =
    subst (AreNumbers c.args.part.now c.args.read.now c.args.unread.now (c.loop-slot.slot + 1)) (sym c.in_ok-push.ensures.items)
    (numbers_more c.args.part.now c.args.read.now c.args.unread.now c.loop-slot.slot c.number_of.result c.loop-slot.numbers.items c.number_of.ensures c.loop-slot.invariant)
