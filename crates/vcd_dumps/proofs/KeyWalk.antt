-- What is written of changes that have a key each.
use Rattle.std.proofs.Common.{◌≡◌, ℕ, suc, ◌≤◌, ◌<◌, List, length, sym, subst}
use Rattle.std.specs.List.{AllByRecursion}
use Rattle.gate_values.specs.declared.logic.Change.{Change}
use Rattle.net_waves.specs.Waves.{wave_of, wave_value, IsWave, IsUntil}
use Rattle.net_waves.specs.declared.timeline.Stop.{Stop}
use Rattle.net_waves.specs.Stops.{AreStopsOf}
use Rattle.net_waves.specs.Keys.{AreKeys, stops_of_keys}
use Rattle.net_waves.proofs.KeyLaws.{keys-rise}
use Rattle.vcd_dumps.proofs.PackedWalk.{rising-same}
use Rattle.vcd_dumps.proofs.Stops.{all_stops, all_stops-rising, known_below}
use Rattle.vcd_dumps.proofs.WaveStops.{stops_are}

-- the stops of keys are the changes up to the horizon
pub keys-all : (lists : List (List Change)) (keys : List ℕ) (horizon : ℕ) → AreKeys keys → AreStopsOf lists (stops_of_keys keys) → ((n : ℕ) → IsWave (wave_of lists n)) → ((n : ℕ) → IsUntil horizon (wave_of lists n)) → stops_of_keys keys ≡ all_stops (wave_value lists) (length lists) (suc horizon)
keys-all lists keys horizon are stops waves until =
    rising-same (stops_of_keys keys) (all_stops (wave_value lists) (length lists) (suc horizon)) (keys-rise 0 keys are) (all_stops-rising (wave_value lists) (length lists) (suc horizon)) (stops_are lists (stops_of_keys keys) horizon stops waves until)

-- of the nets that there are
pub keys-known : (lists : List (List Change)) (keys : List ℕ) (horizon : ℕ) → stops_of_keys keys ≡ all_stops (wave_value lists) (length lists) (suc horizon) → length lists ≤ 1000000 → AllByRecursion (λ (s : Stop). s.net < 1000000) (stops_of_keys keys)
keys-known lists keys horizon all few = subst (AllByRecursion (λ (s : Stop). s.net < 1000000)) (sym all) (known_below (wave_value lists) (length lists) 1000000 (suc horizon) few)
