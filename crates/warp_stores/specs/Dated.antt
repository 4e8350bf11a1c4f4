-- Words that came at times.
use Rattle.std.specs.Prelude.{ℕ, nat_lt, nat_le, Option, Some, None, ◌+◌, ◌≤◌, List, [], ◌∷◌, ◌++◌, map}
use Rattle.std.specs.List.{filter}

-- a time, and what came at it
abbrev pub Dated : Type 0 → Type 0
Dated T = ℕ × T

-- what came at a time, with the time
abbrev pub at : {T : Type 0} → ℕ → List T → List (Dated T)
at time words = map (λ w. (time, w)) words

-- what came before a time
abbrev pub before : {T : Type 0} → ℕ → List (Dated T) → List (Dated T)
before time words = filter (λ d. nat_lt d.0 time) words

-- what came at a time or later
abbrev pub since : {T : Type 0} → ℕ → List (Dated T) → List (Dated T)
since time words = filter (λ d. nat_le time d.0) words

-- what came before an end, or all that came where there is none
abbrev pub before_end : {T : Type 0} → Option ℕ → List (Dated T) → List (Dated T)
before_end None words = words
before_end (Some time) words = before time words

-- what came, each a delay later, up to a last time
abbrev pub later : {T : Type 0} → ℕ → ℕ → List (Dated T) → List (Dated T)
later delay last words = filter (λ d. nat_le d.0 last) (map (λ d. (d.0 + delay, d.1)) words)

-- what came, without the times
abbrev pub undated : {T : Type 0} → List (Dated T) → List T
undated words = map (λ d. d.1) words

-- the time of the first
abbrev pub first_time : {T : Type 0} → List (Dated T) → Option ℕ
first_time [] = None
first_time (d ∷ ds) = Some d.0

-- the time of the last, or a time where there is none
abbrev pub last_from : {T : Type 0} → ℕ → List (Dated T) → ℕ
last_from time [] = time
last_from time (d ∷ ds) = last_from d.0 ds

-- the time of the last, 0 where there is none
abbrev pub last_time : {T : Type 0} → List (Dated T) → ℕ
last_time words = last_from 0 words

-- none is before a time, nor before the one that stands ahead of it
abbrev pub RisesFrom : {T : Type 0} → ℕ → List (Dated T) → Type 0
RisesFrom time [] = Unit {0}
RisesFrom time (d ∷ ds) = (time ≤ d.0) × RisesFrom d.0 ds

-- the times never fall
abbrev pub Rises : {T : Type 0} → List (Dated T) → Type 0
Rises words = RisesFrom 0 words

-- what a queue has: how many words are dead, that no one can ask for any more but take room; what was read; what is ahead
pub record Line (T : Type 0) : Type 0 where
  pub dead : ℕ
  pub read : List (Dated T)
  pub ahead : List (Dated T)

-- what stands in a queue
abbrev pub standing : {T : Type 0} → Line T → List (Dated T)
standing line = line.read ++ line.ahead
