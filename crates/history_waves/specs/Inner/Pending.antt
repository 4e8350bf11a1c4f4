-- What is told so far, and what is listed to be told next.
use Rattle.std.specs.Prelude.{◌≡◌, ℕ, ◌+◌, Option, List, map, take}
use Rattle.net_waves.specs.declared.timeline.NetMove.{NetMove}
use Rattle.net_waves.specs.declared.timeline.Stop.{Stop}
use Rattle.net_waves.specs.Timeline.{count, stop_by}
use Rattle.warp_stores.specs.Words.{Move}
use Rattle.warp_stores.specs.Dated.{Dated}
use Rattle.history_waves.specs.Histories.{own_stops}
use Rattle.history_waves.specs.Stories.{Telling, count_in}

-- how often moves of a time are a change
abbrev pub count_at : Stop → ℕ → List NetMove → ℕ
count_at s time moves = count s (map (stop_by time) moves)

-- beside some moves of a time stand those of given changes, from a number on up to another
abbrev pub AreGiven : List Stop → ℕ → ℕ → ℕ → List NetMove → List NetMove → Type 0
AreGiven given from next time old new = (s : Stop) → count_at s time new + count s (take from given) ≡ count_at s time old + count s (take next given)

-- beside some moves of a time stand those of own nets that words tell
abbrev pub AreOwnMoves : List (Option ℕ) → List (Dated Move) → ℕ → List NetMove → List NetMove → Type 0
AreOwnMoves own words time old new = (s : Stop) → count_at s time new ≡ count_at s time old + count s (own_stops own words)

-- beside some moves of a time stand both
abbrev pub AreListed : List (Option ℕ) → List Stop → ℕ → ℕ → List (Dated Move) → ℕ → List NetMove → List NetMove → Type 0
AreListed own given from next words time old new = (s : Stop) → count_at s time new + count s (take from given) ≡ count_at s time old + (count s (take next given) + count s (own_stops own words))

-- beside some changes stand given ones, from a number on up to another
abbrev pub AreMore : List Stop → ℕ → ℕ → List Stop → List Stop → Type 0
AreMore given from next old new = (s : Stop) → count s new + count s (take from given) ≡ count s old + count s (take next given)

-- beside some changes stand given ones, from a number on up to another, and those of own nets that words tell
abbrev pub AreTold : List (Option ℕ) → List Stop → ℕ → ℕ → List (Dated Move) → List Stop → List Stop → Type 0
AreTold own given from next words old new = (s : Stop) → count s new + count s (take from given) ≡ count s old + (count s (take next given) + count s (own_stops own words))

-- beside some moves of a time stand given changes, from a number on up to another, and what histories tell no more
abbrev pub AreTaken : List Stop → ℕ → ℕ → ℕ → List Telling → List Telling → List NetMove → List NetMove → Type 0
AreTaken given from next time before after old new =
    (s : Stop) → (count_at s time new + count s (take from given)) + count_in s after ≡ (count_at s time old + count s (take next given)) + count_in s before

-- beside some changes stand given ones, from a number on up to another, and what histories tell no more
abbrev pub AreLeft : List Stop → ℕ → ℕ → List Telling → List Telling → List Stop → List Stop → Type 0
AreLeft given from next before after old new =
    (s : Stop) → (count s new + count s (take from given)) + count_in s after ≡ (count s old + count s (take next given)) + count_in s before

-- histories tell nothing more
abbrev pub AreRead : List Telling → Type 0
AreRead tellings = (s : Stop) → count_in s tellings ≡ 0
