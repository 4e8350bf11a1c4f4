-- Rows by time.
use Rattle.std.specs.Prelude.{◌≡◌, ℕ, Bool, ◌&&◌, ◌==◌, if◌then◌else◌, Option, Some, None, is_some, List, []}
use Rattle.std.specs.Ordering.{nat_cmp}
use Rattle.std.specs.BTreeMap.{get, IsOrdered}
use Rattle.smallvec.specs.SmallVec.{SmallVec}
use Rattle.warp_process.specs.declared.entry.Entry.{Entry}
use Rattle.warp_process.specs.declared.by_time.Rows.{Rows}
use Rattle.warp_process.specs.Rows.{Standing, entry_on, IsRow}

-- what a row holds, and nothing where there is none
abbrev pub row_in : Option (SmallVec Standing) → List Standing
row_in None = []
row_in (Some v) = v.items

-- the row of a time
abbrev pub row_at : Rows → ℕ → List Standing
row_at rows t = row_in (get nat_cmp rows.times t)

-- the entry of a place at a time
abbrev pub entry_at : Rows → ℕ → ℕ → Entry
entry_at rows t i = entry_on (row_at rows t) i

-- a row stands at a time
abbrev pub is_listed : Rows → ℕ → Bool
is_listed rows t = is_some (get nat_cmp rows.times t)

-- The rows stand in order of their times.
pub record AreRows (rows : Rows) : Type 0 where
  pub ordered : IsOrdered nat_cmp rows.times
  pub each : (t : ℕ) → IsRow (row_at rows t)

-- each row is as it was
abbrev pub AreSame : Rows → Rows → Type 0
AreSame old new = (t : ℕ) → row_at new t ≡ row_at old t

-- the entry of a place at a time is another one, and no other entry has changed
abbrev pub IsEntered : Rows → Rows → ℕ → ℕ → Entry → Type 0
IsEntered old new time place entry = (t i : ℕ) → entry_at new t i ≡ (if (t == time) && (i == place) then entry else entry_at old t i)
