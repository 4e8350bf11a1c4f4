use Rattle.part_engine.specs.Inner.Queues.{HaveDelays}
use Rattle.part_engine.proofs.queued.delays_of.Given as goal

abbrev pub invariant-loop-slot : goal.invariant-loop-slot
invariant-loop-slot l = HaveDelays l.part l.used l.slot l.delays.items
