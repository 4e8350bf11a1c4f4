use Rattle.std.proofs.Common.{◌≡◌, length, take}
use Rattle.bit_compare.proofs.same.are_equal.Given as goal

-- the changes so far are equal
abbrev pub invariant-loop-at : goal.invariant-loop-at
invariant-loop-at l = take l.at l.changes ≡ take l.at l.others
