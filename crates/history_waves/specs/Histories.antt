-- What a history tells of own nets.
use Rattle.std.specs.Prelude.{◌≡◌, ℕ, ◌+◌, Option, None, option_map, List, get_or}
use Rattle.std.specs.List.{filter_map}
use Rattle.net_waves.specs.declared.timeline.Stop.{Stop}
use Rattle.net_waves.specs.Timeline.{count}
use Rattle.warp_stores.specs.Words.{Move}
use Rattle.warp_stores.specs.Dated.{Dated}

-- a word as a change of the net at its place, if that is told there
abbrev pub stop_of : List (Option ℕ) → Dated Move → Option Stop
stop_of own d = option_map (λ net. record { time = d.0; net = net; value = d.1.after }) (get_or own d.1.place None)

-- the changes of own nets that words tell
abbrev pub own_stops : List (Option ℕ) → List (Dated Move) → List Stop
own_stops own words = filter_map (stop_of own) words

-- some changes, and those of own nets that words tell, each as often
abbrev pub AreBoth : List (Option ℕ) → List Stop → List (Dated Move) → List Stop → Type 0
AreBoth own given words all = (s : Stop) → count s all ≡ count s given + count s (own_stops own words)
