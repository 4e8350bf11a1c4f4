-- Parts of time.
use Rattle.std.specs.Prelude.{◌≡◌, ℕ, ◌+◌, ◌&&◌, Bool, true, if◌then◌else◌, Option, Some, None, nat_le, nat_lt, List}
use Rattle.std.specs.List.{filter}
use Rattle.net_waves.specs.declared.timeline.Stop.{Stop}
use Rattle.net_waves.specs.Timeline.{count}
use Rattle.warp_stores.specs.Dated.{since, before_end}
use Rattle.history_waves.specs.Stories.{Telling, count_in}

-- a time is before an end, if there is one
abbrev pub is_early : Option ℕ → ℕ → Bool
is_early None time = true
is_early (Some until) time = nat_lt time until

-- a time is from one on, and before an end, if there is one
abbrev pub is_within : ℕ → Option ℕ → ℕ → Bool
is_within from until time = nat_le from time && is_early until time

-- what a history tells of a part of time
abbrev pub part_of : ℕ → Option ℕ → Telling → Telling
part_of from until t = record { own = t.own; words = before_end until (since from t.words) }

-- those of some changes that are of a part of time
abbrev pub stops_within : ℕ → Option ℕ → List Stop → List Stop
stops_within from until stops = filter (λ s. is_within from until s.time) stops

-- Of a part of time some changes, and those that histories tell, each as often; and no change of another time.
abbrev pub ArePart : ℕ → Option ℕ → List Stop → List Telling → List Stop → Type 0
ArePart from until given tellings all =
    (s : Stop) → count s all ≡ if is_within from until s.time then count s given + count_in s tellings else 0
