use Rattle.std.proofs.Common.{◌≡◌, ◌-◌}
use Rattle.warp_stores.specs.Delays.{least_due}
use Rattle.warp_journal.specs.Books.{all_of}
use Rattle.warp_journal.specs.Inner.Playing.{HasPassed}
use Rattle.warp_journal.proofs.journal.play_due.Given as goal

abbrev pub invariant-loop-due : goal.invariant-loop-due
invariant-loop-due l = (l.due ≡ least_due (all_of l.journal.queues)) × HasPassed l.time l.initial.journal l.journal

abbrev pub decreases-loop-due : goal.decreases-loop-due
decreases-loop-due l = l.time - l.due
