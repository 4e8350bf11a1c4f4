-- The changes of the nets that are told.
use Rattle.std.specs.Prelude.{◌≡◌, ℕ, ◌<◌, if◌then◌else◌, Bool, List, [], ◌++◌, length, map}
use Rattle.std.specs.List.{AllByRecursion, range_with_len}
use Rattle.gate_values.specs.declared.logic.Change.{Change}
use Rattle.net_waves.specs.Waves.{wave_of}
use Rattle.net_waves.specs.declared.timeline.Stop.{Stop}
use Rattle.vcd_dumps.specs.Walk.{walked, last_stop}
use Rattle.vcd_only.specs.declared.stops.Told.{Told}
use Rattle.vcd_only.specs.Told.{is_told}

-- a change as that of a whole dump
abbrev pub stop_of : Told → Stop
stop_of x = record { time = x.time; net = x.net; value = x.value }

abbrev pub stops_in : List Told → List Stop
stops_in xs = map stop_of xs

-- the changes of a net that is told; none of another
abbrev pub shown_wave : List Bool → List (List Change) → ℕ → List Change
shown_wave told lists n = if is_told told n then wave_of lists n else []

-- the changes of each net, without those of the nets that aren't told
unfoldable pub shown : List Bool → List (List Change) → List (List Change)
shown told lists = map (shown_wave told lists) (range_with_len 0 (length lists))

-- of some stops the first have been written, the last one at the time `last`, and the rest are left
pub record IsWritten (old new : List ℕ) (last : ℕ) (rest all : List Stop) : Type 0 where
  pub whole : new ++ walked last rest ≡ old ++ walked 0 all
  pub end : last_stop last rest ≡ last_stop 0 all
  pub known : AllByRecursion (λ (s : Stop). s.net < 1000000) rest
