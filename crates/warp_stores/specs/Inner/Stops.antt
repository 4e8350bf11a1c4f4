-- How words that came at times lie in stops.
use Rattle.std.specs.Prelude.{◌≡◌, ℕ, ◌+◌, ◌<◌, ◌≤◌, ◌-◌, ◌⊎◌, Option, Some, None, List, [], ◌∷◌, ◌++◌, length, take, slice_index_or, slice_set}
use Rattle.std.specs.List.{All, between}
use Rattle.warp_stores.specs.Shown.StopBits.{Tally}
use Rattle.warp_stores.specs.declared.place.Place.{Place}

-- how many words some stops have
abbrev pub total : List Tally → ℕ
total [] = 0
total (s ∷ ss) = s.count + total ss

-- each stop is at a time or later
abbrev pub AreSince : ℕ → List Tally → Type 0
AreSince time stops = All (λ s. time ≤ s.time) stops

-- each stop is before a time
abbrev pub AreBefore : ℕ → List Tally → Type 0
AreBefore time stops = All (λ s. s.time < time) stops

-- no stop is before a time, nor before the one that stands ahead of it
abbrev pub Climbs : ℕ → List Tally → Type 0
Climbs time [] = Unit {0}
Climbs time (s ∷ ss) = (time ≤ s.time) × Climbs s.time ss

-- each stop has a word
abbrev pub AreFull : List Tally → Type 0
AreFull stops = All (λ s. 0 < s.count) stops

-- a place between stops
pub record IsPlace (stops : List Tally) (place : Place) : Type 0 where
  pub within : place.stops ≤ length stops
  pub words : total (take place.stops stops) ≡ place.words

-- two places, the first of them not behind the second
pub record IsSpan (stops : List Tally) (from to : Place) : Type 0 where
  pub begin : IsPlace stops from
  pub end : IsPlace stops to
  pub order : from.stops ≤ to.stops

-- a place parts the stops between two others into those before a time and those that aren't
pub record IsParted (time : ℕ) (stops : List Tally) (from to place : Place) : Type 0 where
  pub low : IsSpan stops from place
  pub high : IsSpan stops place to
  pub earlier : AreBefore time (between from.stops place.stops stops)
  pub later : AreSince time (between place.stops to.stops stops)

-- the same, where the time is the end; where there is none, the place is the second of the two
abbrev pub IsEnd : Option ℕ → List Tally → Place → Place → Place → Type 0
IsEnd None stops from to place = place ≡ to
IsEnd (Some time) stops from to place = IsParted time stops from to place

-- the last stop has one word more, and isn't among the first few
pub record IsJoined (fixed time : ℕ) (stops stops' : List Tally) (last : Tally) : Type 0 where
  pub some : fixed < length stops
  pub is_last : last ≡ slice_index_or stops (length stops - 1) last
  pub at_time : last.time ≡ time
  pub after : stops' ≡ slice_set stops (length stops - 1) (record { time = time; count = last.count + 1 })

-- some stops have one word more at a time, and the first few are as they were
abbrev pub HaveOneMore : ℕ → ℕ → List Tally → List Tally → Type 0
HaveOneMore fixed time stops stops' = (stops' ≡ stops ++ record { time = time; count = 1 } ∷ []) ⊎ ((last : Tally) × IsJoined fixed time stops stops' last)

-- behind some stops stand others of one time, that have so many words
pub record HaveMore (time count : ℕ) (stops stops' : List Tally) : Type 0 where
  pub added : List Tally
  pub after : stops' ≡ stops ++ added
  pub words : total added ≡ count
  pub full : AreFull added
  pub once : All (λ s. s.time ≡ time) added

-- how stops and words lie in a queue
pub record IsQueue {T : Type 0} (stops : List Tally) (words : List T) (dead read : Place) : Type 0 where
  pub whole : total stops ≡ length words
  pub full : AreFull stops
  pub span : IsSpan stops dead read
  pub climbs : Climbs 0 (between dead.stops (length stops) stops)

-- how stops and words lie in a reader
pub record IsReader {T : Type 0} (stops : List Tally) (words : List T) : Type 0 where
  pub whole : total stops ≡ length words
  pub full : AreFull stops
  pub climbs : Climbs 0 stops
