-- Where a comparison stands in a bit.
use Rattle.std.specs.Prelude.{◌≡◌, ℕ, ◌+◌, ◌≤◌, ◌<◌, ◌^◌, List, Option, Some}
use Rattle.gate_values.specs.declared.logic.Logic.{Logic}
use Rattle.gate_values.specs.declared.logic.Logic.TheVariants as logic
use Rattle.gate_values.specs.declared.logic.Change.{Change}
use Rattle.bit_compare.specs.declared.recent.Recent.{Recent}
use Rattle.bit_compare.specs.declared.cursor.Cursor.{Cursor}
use Rattle.bit_compare.specs.Agreement.{IsAmong}
use Rattle.bit_compare.specs.Inner.Moments.{IsCount, IsPassed}
use Rattle.bit_compare.specs.Shown.Moments.{moments, shown, value_after, IsShown}

-- of a value, the last stretch that has it
abbrev pub recent_of : Recent → Logic → Option ℕ
recent_of r logic.Zero = r.zero
recent_of r logic.One = r.one
recent_of r logic.X = r.x
recent_of r logic.Z = r.z

-- of the stretches up to number n the last one with the value, if there is one
pub record IsRecent (first : Logic) (cs : List Change) (n : ℕ) (v : Logic) (o : Option ℕ) : Type 0 where
  pub stands : (k : ℕ) → o ≡ Some k → (k ≤ n) × (value_after first cs k ≡ v)
  pub last : (j : ℕ) → j ≤ n → value_after first cs j ≡ v → (k : ℕ) × (o ≡ Some k) × (j ≤ k)

-- every value's last stretch is known among those up to n
abbrev pub AreRecent : Logic → List Change → ℕ → Recent → Type 0
AreRecent first cs n r = (v : Logic) → IsRecent first cs n v (recent_of r v)

abbrev pub seen_by : Cursor → List Change
seen_by c = moments c.shown.now

abbrev pub bit_of : Cursor → ℕ → Logic
bit_of c = shown c.shown.now

-- it has seen no more than there is up to its time, and near it
pub record IsReady (c : Cursor) : Type 0 where
  pub shown : IsShown c.shown.now
  pub small : c.time + c.within < 2 ^ 127
  pub passed : IsPassed (seen_by c) c.time c.passed
  pub near : IsPassed (seen_by c) (c.time + c.within) c.near
  pub recent : AreRecent c.shown.now.first (seen_by c) c.near c.recent

-- it has seen all of that
pub record IsAt (c : Cursor) : Type 0 where
  pub shown : IsShown c.shown.now
  pub small : c.time + c.within < 2 ^ 127
  pub passed : IsCount (seen_by c) c.time c.passed
  pub near : IsCount (seen_by c) (c.time + c.within) c.near
  pub recent : AreRecent c.shown.now.first (seen_by c) c.near c.recent

-- the value at its time stays up to an end
pub record Holds (c : Cursor) (end : ℕ) : Type 0 where
  pub later : c.time < end
  pub same : (t : ℕ) → c.time ≤ t → t < end → bit_of c t ≡ bit_of c c.time

-- a value is among those near a time, up to an end, which isn't later than the cursor's time where it isn't among them now
pub record IsNearUntil (c : Cursor) (v : Logic) (end : ℕ) : Type 0 where
  pub among : (t : ℕ) → c.time ≤ t → t < end → IsAmong c.within v (bit_of c) t
  pub none : end ≤ c.time → ¬ IsAmong c.within v (bit_of c) c.time
