use Rattle.std.proofs.Common.{take}
use Rattle.warp_journal.specs.Inner.Parts.{ArePutBehind}
use Rattle.warp_journal.proofs.queues.put_all.Given as goal

abbrev pub invariant-loop-put : goal.invariant-loop-put
invariant-loop-put l = ArePutBehind l.step (take l.put-index l.puts) l.initial.queues l.queues
