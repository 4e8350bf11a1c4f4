-- How words that came at times lie in stops.
use Rattle.std.specs.Prelude.{List, [], ◌∷◌, ◌++◌, length, take, drop, map}
use Rattle.std.specs.List.{between}
use Rattle.warp_stores.specs.Dated.{Dated, Line}
use Rattle.warp_stores.specs.Shown.StopBits.{Tally}
use Rattle.warp_stores.specs.declared.place.Place.{Place}

-- words at the times of their stops
abbrev pub dated : {T : Type 0} → List Tally → List T → List (Dated T)
dated [] words = []
dated (s ∷ ss) words = map (λ w. (s.time, w)) (take s.count words) ++ dated ss (drop s.count words)

-- the place behind all stops
abbrev pub end_of : {T : Type 0} → List Tally → List T → Place
end_of stops words = record { stops = length stops; words = length words }

-- the words between two places
abbrev pub told : {T : Type 0} → List Tally → List T → Place → Place → List (Dated T)
told stops words from to = dated (between from.stops to.stops stops) (between from.words to.words words)

-- what a queue has
abbrev pub line_of : {T : Type 0} → List Tally → List T → Place → Place → Line T
line_of stops words dead read = record { dead = dead.words; read = told stops words dead read; ahead = told stops words read (end_of stops words) }
