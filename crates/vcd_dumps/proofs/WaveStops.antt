-- The stops of waves.
use Rattle.std.proofs.Common.{◌≡◌, ℕ, suc, List, [], length, ap, sym, ◌∙◌, arith, inl, inr}
use Rattle.std.proofs.lemmas.List.{get_or_past}
use Rattle.gate_values.specs.declared.logic.Logic.TheVariants.{X}
use Rattle.gate_values.specs.declared.logic.Change.{Change}
use Rattle.gate_values.specs.Changes.{pair_at}
use Rattle.net_waves.specs.Waves.{wave_of, wave_value, IsWave, IsUntil}
use Rattle.net_waves.specs.declared.timeline.Stop.{Stop}
use Rattle.net_waves.specs.Timeline.{count}
use Rattle.net_waves.specs.Stops.{marked, AreStopsOf}
use Rattle.net_waves.proofs.Waving.{pair_at-end}
use Rattle.net_waves.proofs.Compared.{cases_lt}
use Rattle.gate_stimulus.proofs.WaveValues.{pair_at-wave}
use Rattle.vcd_dumps.proofs.Stops.{all_stops, all_stops-here, all_stops-above, all_stops-late}

-- the stops are all changes of all nets
pub stops_are : (lists : List (List Change)) (stops : List Stop) (horizon : ℕ) → AreStopsOf lists stops → ((n : ℕ) → IsWave (wave_of lists n)) → ((n : ℕ) → IsUntil horizon (wave_of lists n))
    → (s : Stop) → count s stops ≡ count s (all_stops (wave_value lists) (length lists) (suc horizon))
stops_are lists stops horizon is waves until s = is s ∙ elim (cases_lt s.time (suc horizon)) [
  | inl early ↦ elim (cases_lt s.net (length lists)) [
    | inl known ↦ (ap (marked s.value) (pair_at-wave (wave_of lists s.net) s.time (waves s.net)) ∙ sym (all_stops-here (wave_value lists) (length lists) (suc horizon) s early known))
    | inr above ↦ (ap (λ (cs : List Change). marked s.value (pair_at cs s.time)) (get_or_past lists s.net [] above) ∙ sym (all_stops-above (wave_value lists) (length lists) (suc horizon) s above))
  ]
  | inr late ↦ (ap (marked s.value) (pair_at-end 0 X (wave_of lists s.net) s.time (waves s.net) (omega (arith, until s.net))) ∙ sym (all_stops-late (wave_value lists) (length lists) (suc horizon) s late))
]
