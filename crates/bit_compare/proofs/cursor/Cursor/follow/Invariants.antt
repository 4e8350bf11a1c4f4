use Rattle.std.proofs.Common.{◌≡◌, length, ◌-◌}
use Rattle.bit_compare.specs.Inner.Moments.{IsPassed}
use Rattle.bit_compare.specs.Shown.Moments.{IsShown}
use Rattle.bit_compare.specs.Inner.Cursors.{AreRecent, seen_by}
use Rattle.bit_compare.proofs.cursor.Cursor.follow.Given as goal

-- the changes so far aren't later, and the last stretches of each value are known
abbrev pub invariant-loop-self : goal.invariant-loop-self
invariant-loop-self l = record {
  shown : l.self.shown ≡ l.initial.self.shown;
  within : l.self.within ≡ l.initial.self.within;
  time : l.self.time ≡ l.initial.self.time;
  passed : l.self.passed ≡ l.initial.self.passed;
  is_shown : IsShown l.self.shown.now;
  near : IsPassed (seen_by l.self) l.time l.self.near;
  recent : AreRecent l.self.shown.now.first (seen_by l.self) l.self.near l.self.recent;
}

abbrev pub decreases-loop-self : goal.decreases-loop-self
decreases-loop-self l = length (seen_by l.self) - l.self.near
