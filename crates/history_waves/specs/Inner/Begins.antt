-- Times at which parts begin, and what is told of the parts.
use Rattle.std.specs.Prelude.{◌≡◌, ℕ, ◌+◌, ◌<◌, ◌≤◌, Option, Some, None, Result, Ok, Err, List, [], ◌∷◌, length, get_or, slice_get}
use Rattle.net_waves.specs.declared.timeline.Stop.{Stop}
use Rattle.net_waves.specs.declared.by_time.ByTime.{ByTime}
use Rattle.net_waves.specs.ByTime.{stops_in}
use Rattle.net_waves.specs.Timeline.{count}

-- The first part begins at 0, and none begins before the one ahead of it.
pub record AreBegins (begins : List ℕ) : Type 0 where
  pub some : 0 < length begins
  pub first : get_or begins 0 0 ≡ 0
  pub rising : (part : ℕ) → part + 1 < length begins → get_or begins part 0 ≤ get_or begins (part + 1) 0

-- a part ends where the next one begins, if there is one
abbrev pub end_of : List ℕ → ℕ → Option ℕ
end_of begins part = slice_get begins (part + 1)

-- changes, if there are some
abbrev pub stops_of : Option ByTime → List Stop
stops_of None = []
stops_of (Some by_time) = stops_in by_time

-- each part is told
abbrev pub AreAllTold : {E : Type 0} → List (Result (Option ByTime) E) → Type 0
AreAllTold [] = Unit {0}
AreAllTold (Ok (Some by_time) ∷ parts) = AreAllTold parts
AreAllTold (Ok None ∷ parts) = ⊥
AreAllTold (Err e ∷ parts) = ⊥

-- how often a change is told of some parts
abbrev pub count_told : {E : Type 0} → Stop → List (Result (Option ByTime) E) → ℕ
count_told s [] = 0
count_told s (Ok (Some by_time) ∷ parts) = count s (stops_in by_time) + count_told s parts
count_told s (Ok None ∷ parts) = count_told s parts
count_told s (Err e ∷ parts) = count_told s parts
