-- All changes by time, in words, in keys or in runs.
use Rattle.std.specs.Prelude.{List}
use Rattle.net_waves.specs.declared.timeline.Stop.{Stop}
use Rattle.net_waves.specs.declared.by_time.ByTime.{ByTime}
use Rattle.net_waves.specs.declared.by_time.ByTime.TheVariants.{Words, Keys, Runs}
use Rattle.net_waves.specs.Packed.{all_told}
use Rattle.net_waves.specs.Keys.{stops_of_keys}

-- the changes, whichever way they are kept
abbrev pub stops_in : ByTime → List Stop
stops_in (Words p) = all_told p
stops_in (Keys k) = stops_of_keys k
stops_in (Runs t) = t.stops
