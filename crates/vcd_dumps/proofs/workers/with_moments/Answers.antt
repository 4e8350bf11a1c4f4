use Rattle.std.proofs.Common.{ℕ, List, subst}
use Rattle.gate_values.specs.declared.logic.Change.{Change}
use Rattle.net_waves.specs.Waves.{wave_of, IsWave}
use Rattle.net_waves.specs.ByTime.{stops_in}
use Rattle.net_waves.specs.Stops.{AreStopsOf}
use Rattle.vcd_dumps.proofs.workers.with_moments.Goals as goal

pub with_changes-requires-sync-R : goal.with_changes-requires-sync-R
with_changes-requires-sync-R g c κs within =
    let stops = subst (λ (w : List (List Change)). AreStopsOf w (stops_in c.into_parts-spent.result.1)) c.requires.1.1.0 c.into_parts-spent.ensures.by_time in
    let waves = subst (λ (w : List (List Change)). (n : ℕ) → IsWave (wave_of w n)) c.requires.1.1.0 c.law.ensures in
    (within, (c.requires.1.0, (c.requires.1.1.1.0, (c.requires.1.1.1.1.0, (waves, (stops, c.requires.1.1.1.1.1))))))
