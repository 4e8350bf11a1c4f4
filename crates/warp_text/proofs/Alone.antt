-- The changes of a circuit's values, net by net, are waves that can be dumped.
use Rattle.std.proofs.Common.{◌≡◌, ℕ, ◌+◌, ◌<◌, inl, inr, List, [], length, get_or, unwrap_or, ap, ◌∙◌, arith}
use Rattle.std.proofs.lemmas.Bool.{cases_lt}
use Rattle.std.proofs.lemmas.List.{get_or_past}
use Rattle.std.proofs.lemmas.List.FromFn.{get_or-map-range_with_len, length-map-range_with_len}
use Rattle.gate_values.specs.declared.logic.Logic.{Logic}
use Rattle.gate_values.specs.declared.logic.Logic.TheVariants.{X}
use Rattle.gate_values.specs.declared.logic.Change.{Change}
use Rattle.gate_values.specs.Changes.{changes, latest, pair_at}
use Rattle.gate_values.proofs.ChangeLists.{change_option-or}
use Rattle.gate_netlist.specs.Circuit.{Design, nets_of}
use Rattle.net_waves.specs.declared.timeline.Stop.{Stop}
use Rattle.net_waves.specs.Stops.{AreStopsOf}
use Rattle.net_waves.specs.Waves.{wave_of, IsWave}
use Rattle.gate_stimulus.specs.Given.{Given}
use Rattle.gate_stimulus.proofs.WaveValues.{pair_at-wave, changes-IsWave}
use Rattle.warp_core.specs.Values.{value_under, circuit_waves, AreCircuitWaves}
use Rattle.warp_text.specs.Inner.Firsts.{AreFirstsOf}

pub circuit_waves-are : (d : Design) (g : Given) (horizon : ℕ) → AreCircuitWaves d g horizon (circuit_waves d g horizon)
circuit_waves-are d g horizon = record {
  nets = length-map-range_with_len (λ n. changes (value_under d g n) (horizon + 1)) 0 (nets_of d);
  waves = λ n l. get_or-map-range_with_len (λ m. changes (value_under d g m) (horizon + 1)) 0 (nets_of d) n n [] l (omega arith);
}

pub each_wave : (d : Design) (g : Given) (horizon : ℕ) (lists : List (List Change)) → AreCircuitWaves d g horizon lists → (n : ℕ) → IsWave (wave_of lists n)
each_wave d g horizon lists are n = elim (cases_lt n (nets_of d)) [
  | inl within ↦ rw (are.waves n within) (changes-IsWave (value_under d g n) (horizon + 1)).0
  | inr past ↦ rw (get_or_past lists n [] (omega (arith, past, are.nets))) tt
]

-- the value at time 0 is that of the change at time 0, x where there is none
pub first_latest : (cs : List Change) → IsWave cs → unwrap_or (pair_at cs 0) X ≡ latest X cs 0
first_latest cs w = ap (λ o. unwrap_or o X) (pair_at-wave cs 0 w) ∙ change_option-or (latest X cs) 0

-- what changes by time say of each net at time 0
pub first_values_of : (d : Design) (g : Given) (horizon nets : ℕ) (firsts : List Logic) (stops : List Stop) → nets ≡ nets_of d → length firsts ≡ nets
    → ((lists : List (List Change)) (n : ℕ) → AreStopsOf lists stops → n < nets → get_or firsts n X ≡ unwrap_or (pair_at (wave_of lists n) 0) X)
    → AreStopsOf (circuit_waves d g horizon) stops → AreFirstsOf (circuit_waves d g horizon) firsts
first_values_of d g horizon nets firsts stops count many each are =
    let waves = circuit_waves-are d g horizon in (
      omega (arith, many, count, waves.nets),
      λ n l. each (circuit_waves d g horizon) n are (omega (arith, l, count, waves.nets)) ∙ first_latest (wave_of (circuit_waves d g horizon) n) (each_wave d g horizon (circuit_waves d g horizon) waves n),
    )
