use Rattle.std.proofs.Common.{IfNone, take}
use Rattle.history_waves.specs.Inner.Pending.{AreRead}
use Rattle.history_waves.proofs.several.first_head.Given as goal

-- where no time is found, no word is left of the untold so far
abbrev pub invariant-loop-history : goal.invariant-loop-history
invariant-loop-history l = IfNone l.first (AreRead (take l.history-index l.untold))
