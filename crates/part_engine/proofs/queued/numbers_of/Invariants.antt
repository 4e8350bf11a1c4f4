use Rattle.part_engine.specs.Inner.Queues.{AreNumbers}
use Rattle.part_engine.proofs.queued.numbers_of.Given as goal

abbrev pub invariant-loop-slot : goal.invariant-loop-slot
invariant-loop-slot l = AreNumbers l.part l.read l.unread l.slot l.numbers.items
