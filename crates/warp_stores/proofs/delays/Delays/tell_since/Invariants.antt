use Rattle.std.proofs.Common.{◌≡◌, ◌++◌, take}
use Rattle.std.specs.List.{flat_map}
use Rattle.warp_stores.specs.Delays.{told_since}
use Rattle.warp_stores.proofs.delays.Delays.tell_since.Given as goal

abbrev pub invariant-loop-queue : goal.invariant-loop-queue
invariant-loop-queue l = l.batch ≡ l.initial.batch ++ flat_map (told_since l.step l.last) (take l.queue-index l.queue-items)
