-- What several histories tell, each of its own nets.
use Rattle.std.specs.Prelude.{◌≡◌, ℕ, ◌+◌, Option, List, [], ◌∷◌}
use Rattle.net_waves.specs.declared.timeline.Stop.{Stop}
use Rattle.net_waves.specs.Timeline.{count}
use Rattle.warp_stores.specs.Words.{Move}
use Rattle.warp_stores.specs.Dated.{Dated}
use Rattle.history_waves.specs.Histories.{own_stops}

-- words of a history, and of each place the net that stands there, if it is told
pub record Telling : Type 0 where
  pub own : List (Option ℕ)
  pub words : List (Dated Move)

-- how often the words of some histories tell a change
abbrev pub count_in : Stop → List Telling → ℕ
count_in s [] = 0
count_in s (t ∷ ts) = count s (own_stops t.own t.words) + count_in s ts

-- some changes, and those that the words of histories tell, each as often
abbrev pub AreAll : List Stop → List Telling → List Stop → Type 0
AreAll given tellings all = (s : Stop) → count s all ≡ count s given + count_in s tellings
