-- A bit as it is compared: its value from time 0 on, and its later changes in the common unit.
use Rattle.std.specs.Prelude.{◌≡◌, ℕ, Bool, nat_le, ◌+◌, ◌*◌, ◌<◌, ◌≤◌, List, length, slice_index_or}
use Rattle.gate_values.specs.declared.logic.Change.{Change}
use Rattle.bit_compare.specs.declared.shown.Shown.{Shown}
use Rattle.bit_compare.specs.Bits.{Lens}

-- a change at this time isn't seen after time 0
abbrev pub is_gone : Lens → ℕ → Bool
is_gone lens time = nat_le (time * lens.scale + lens.earlier) lens.later

-- two bits have the same changes, seen alike
pub record IsSame (s r : Shown) : Type 0 where
  pub first : s.first ≡ r.first
  pub scale : s.scale ≡ r.scale
  pub later : s.later ≡ r.later
  pub earlier : s.earlier ≡ r.earlier
  pub changes : s.changes.now ≡ r.changes.now

-- so many changes, the first ones, are known not to be later than a time
pub record IsPassed (cs : List Change) (t n : ℕ) : Type 0 where
  pub within : n ≤ length cs
  pub before : (i : ℕ) (d : Change) → i < n → (slice_index_or cs i d).time ≤ t

-- and the others are later
pub record IsCount (cs : List Change) (t n : ℕ) : Type 0 where
  pub within : n ≤ length cs
  pub before : (i : ℕ) (d : Change) → i < n → (slice_index_or cs i d).time ≤ t
  pub after : (i : ℕ) (d : Change) → n ≤ i → i < length cs → t < (slice_index_or cs i d).time
