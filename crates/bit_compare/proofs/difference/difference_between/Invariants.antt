use Rattle.std.proofs.Common.{◌≡◌, ◌+◌, ◌-◌}
use Rattle.std.specs.Option.{option_map_or}
use Rattle.bit_compare.specs.Shown.Moments.{shown}
use Rattle.bit_compare.specs.Inner.Cursors.{IsReady}
use Rattle.bit_compare.specs.Inner.Until.{Stands}
use Rattle.bit_compare.proofs.difference.difference_between.Given as goal

-- both cursors are ready for the next time, up to which the bits agree
abbrev pub invariant-loop-next : goal.invariant-loop-next
invariant-loop-next l = record {
  expected : IsReady l.at_expected;
  actual : IsReady l.at_actual;
  expected_shown : l.at_expected.shown.now ≡ l.expected;
  actual_shown : l.at_actual.shown.now ≡ l.actual;
  expected_within : l.at_expected.within ≡ l.how.within;
  actual_within : l.at_actual.within ≡ l.how.within;
  time : l.at_actual.time ≡ l.at_expected.time;
  stands : Stands l.how l.times (shown l.expected) (shown l.actual) l.at_expected.time l.next;
}

abbrev pub decreases-loop-next : goal.decreases-loop-next
decreases-loop-next l = option_map_or (λ t. l.times.to + 1 - t) l.next 0
