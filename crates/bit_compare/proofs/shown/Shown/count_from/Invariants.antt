use Rattle.std.proofs.Common.{length, ◌-◌}
use Rattle.bit_compare.specs.Inner.Moments.{IsPassed}
use Rattle.bit_compare.specs.Shown.Moments.{moments}
use Rattle.bit_compare.proofs.shown.Shown.count_from.Given as goal

-- the changes so far aren't later
abbrev pub invariant-loop-count : goal.invariant-loop-count
invariant-loop-count l = IsPassed (moments l.self) l.time l.count

abbrev pub decreases-loop-count : goal.decreases-loop-count
decreases-loop-count l = length (moments l.self) - l.count
