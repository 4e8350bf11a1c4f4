use Rattle.std.proofs.Common.{◌≡◌}
use Rattle.warp_stores.specs.Delays.{due_of}
use Rattle.warp_stores.proofs.Mixing.{mixed}
use Rattle.warp_stores.proofs.delays.tell_due.Given as goal

abbrev pub invariant-loop-place : goal.invariant-loop-place
invariant-loop-place l = l.due ≡ mixed due_of l.place l.queues l.initial.due
