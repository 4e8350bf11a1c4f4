-- Event times, and the marks of saved states.
use Rattle.std.specs.Prelude.{◌≡◌, ℕ, zero, suc, ◌+◌, ◌-◌, ◌*◌, ◌<◌, ◌≤◌, Bool, true, false, List, [], ◌∷◌, length, drop, get_or}
use Rattle.std.specs.List.{count_by, range_with_len}
use Rattle.event_times.specs.declared.times.TheConstants.{SAVE_EVERY}

-- the mark of the oldest saved state, and the event times from it on
pub record Played : Type 0 where
  pub first : ℕ
  pub times : List ℕ

-- each of some times is later than the one before it, and the first isn't before one
abbrev pub IsRising : ℕ → List ℕ → Type 0
IsRising low [] = Unit {0}
IsRising low (t ∷ ts) = (low ≤ t) × IsRising (suc t) ts

-- the marks right after each so many event times, where some are left until the next one
abbrev pub later_marks : ℕ → List ℕ → List ℕ
later_marks left [] = []
later_marks zero (t ∷ ts) = suc t ∷ later_marks (SAVE_EVERY - 1) ts
later_marks (suc left) (t ∷ ts) = later_marks left ts

-- the marks of all saved states, the oldest first
abbrev pub marks_of : Played → List ℕ
marks_of p = p.first ∷ later_marks (SAVE_EVERY - 1) p.times

-- how many times from a first one on, and below an end, pass a test
abbrev pub counted : (ℕ → Bool) → ℕ → ℕ → ℕ
counted busy from end = count_by busy (range_with_len from (end - from))

-- These are all times from a first one on, and below an end, that pass a test, in order.
abbrev pub AreTimes : (ℕ → Bool) → ℕ → ℕ → List ℕ → Type 0
AreTimes busy from end [] = (from ≤ end) × ((t : ℕ) → from ≤ t → t < end → busy t ≡ false)
AreTimes busy from end (t ∷ ts) = (from ≤ t) × (busy t ≡ true) × ((s : ℕ) → from ≤ s → s < t → busy s ≡ false) × AreTimes busy (suc t) end ts

-- A state is saved right after each so many busy times since the one before; since the newest there were fewer.
abbrev pub AreSpaced : (ℕ → Bool) → ℕ → ℕ → List ℕ → Type 0
AreSpaced busy end mark [] = (mark ≤ end) × (counted busy mark end < SAVE_EVERY)
AreSpaced busy end mark (m ∷ later) = (mark < m) × (counted busy mark m ≡ SAVE_EVERY) × (busy (m - 1) ≡ true) × AreSpaced busy end m later

-- the mark of the saved state after so many others
abbrev pub mark_after : ℕ → Played → ℕ
mark_after zero p = p.first
mark_after (suc n) p = suc (get_or p.times (n * SAVE_EVERY + (SAVE_EVERY - 1)) 0)

-- Of the saved states up to a floor the newest stays, and those after it.
pub record IsKept (floor : ℕ) (old new : Played) : Type 0 where
  pub states : ℕ
  pub there : states * SAVE_EVERY ≤ length old.times
  pub first : new.first ≡ mark_after states old
  pub times : new.times ≡ drop (states * SAVE_EVERY) old.times
  pub low : 0 < states → new.first ≤ floor
  pub newest : SAVE_EVERY ≤ length new.times → floor ≤ get_or new.times (SAVE_EVERY - 1) 0
