-- A bit as it is compared: its value from time 0 on, and its later changes in the common unit.
use Rattle.std.specs.Prelude.{ℕ, zero, suc, ◌+◌, ◌-◌, ◌*◌, ◌<◌, ◌^◌, List, [], ◌∷◌, map, length, slice_index_or}
use Rattle.gate_values.specs.declared.logic.Logic.{Logic}
use Rattle.gate_values.specs.declared.logic.Change.{Change}
use Rattle.gate_values.specs.Changes.{latest}
use Rattle.bit_compare.specs.declared.shown.Shown.{Shown}
use Rattle.bit_compare.specs.Bits.{Lens}

-- when a change is seen, which is after time 0
abbrev pub seen_at : Lens → Change → Change
seen_at lens c = record { time = c.time * lens.scale + lens.earlier - lens.later; value = c.value }

abbrev pub lens_of : Shown → Lens
lens_of s = record { scale = s.scale; later = s.later; earlier = s.earlier }

-- a lens of so many units a time, and of so much later or earlier
abbrev pub lens : ℕ → ℕ → ℕ → Lens
lens scale later earlier = record { scale = scale; later = later; earlier = earlier }

-- the times of changes rise
abbrev pub AreRising : List Change → Type 0
AreRising cs = (i j : ℕ) (d : Change) → i < j → j < length cs → (slice_index_or cs i d).time < (slice_index_or cs j d).time

-- the first time past all others
abbrev pub never : ℕ
never = 340282366920938463463374607431768211455

abbrev pub moments : Shown → List Change
moments s = map (seen_at (lens_of s)) s.changes.now

-- the value that it shows at a time
abbrev pub shown : Shown → ℕ → Logic
shown s t = latest s.first (moments s) t

-- times rise, from above 0 on
pub record AreMoments (cs : List Change) : Type 0 where
  pub positive : (i : ℕ) (d : Change) → i < length cs → 0 < (slice_index_or cs i d).time
  pub rising : AreRising cs

-- no time is past the machine's numbers
pub record IsSmall (lens : Lens) (cs : List Change) : Type 0 where
  pub scale : lens.scale < 2 ^ 60
  pub earlier : lens.earlier < 2 ^ 126
  pub later : lens.later < 2 ^ 126
  pub times : (i : ℕ) (d : Change) → i < length cs → (slice_index_or cs i d).time < 2 ^ 60

pub record IsShown (s : Shown) : Type 0 where
  pub small : IsSmall (lens_of s) s.changes.now
  pub moments : AreMoments (moments s)
  pub after : (i : ℕ) (d : Change) → i < length s.changes.now → s.later < (slice_index_or s.changes.now i d).time * s.scale + s.earlier

-- the value after so many changes
abbrev pub value_after : Logic → List Change → ℕ → Logic
value_after v cs zero = v
value_after v [] (suc n) = v
value_after v (c ∷ cs) (suc n) = value_after c.value cs n
