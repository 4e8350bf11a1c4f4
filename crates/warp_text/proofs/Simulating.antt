-- The dump of a circuit's waves is that of its values, and that under the signals that the stimulus's text means.
use Rattle.std.proofs.Common.{◌≡◌, ℕ, ◌+◌, ◌<◌, ◌≤◌, ◌⊎◌, inl, inr, List, [], Result, Ok, Err, Vec, ap, ◌∙◌, arith}
use Rattle.std.proofs.lemmas.List.{get_or_past}
use mathlib.Core.Path.{fun_ext}
use Rattle.std.specs.declared.alloc.Global.{Global}
use Rattle.gate_values.specs.declared.logic.Logic.{Logic}
use Rattle.gate_values.specs.declared.logic.Change.{Change}
use Rattle.gate_values.specs.Behaviour.{value}
use Rattle.gate_netlist.specs.Circuit.{Design, nets_of, source_of}
use Rattle.gate_stimulus.specs.declared.timescale.Timescale.{Timescale}
use Rattle.gate_stimulus.specs.Given.{Given}
use Rattle.gate_vcd.specs.Stimulus.{Reading, Means, signal}
use Rattle.vcd_dumps.specs.Dump.{dump_text, vcd_text}
use Rattle.net_waves.specs.Waves.{wave_of, wave_value, IsUntil}
use Rattle.vcd_dumps.proofs.DumpLaws.{dump_text-waves}
use Rattle.gate_stimulus.proofs.WaveValues.{changes-IsWave}
use Rattle.warp_core.specs.Values.{given_by, value_under, AreCircuitWaves}
use Rattle.warp_text.specs.Answer.{circuit_value, IsCircuitOf, IsAnswer}
use Rattle.warp_text.specs.Inner.Answer.{IsDumped}
use Rattle.warp_text.specs.declared.fault.Fault.{Fault}
use Rattle.warp_text.specs.declared.fault.Fault.TheVariants as faults

-- a circuit's waves have no change past the horizon
pub waves_until : (d : Design) (g : Given) (horizon : ℕ) (lists : List (List Change)) → AreCircuitWaves d g horizon lists → (n : ℕ) → IsUntil horizon (wave_of lists n)
waves_until d g horizon lists are n =
    elim (either n (nets_of d)) [
      | inl within ↦ rw (are.waves n within) (changes-IsWave (value_under d g n) (horizon + 1)).1
      | inr past ↦ rw (get_or_past lists n [] (omega (arith, are.nets))) (omega arith)
    ]
  where
    either : (n m : ℕ) → (n < m) ⊎ (m ≤ n)
    either n m = grind arith

-- the dump of a circuit's waves is that of its values
pub dump-waves : (top : List ℕ) (d : Design) (g : Given) (horizon : ℕ) (lists : List (List Change)) → AreCircuitWaves d g horizon lists
    → vcd_text top d g (wave_value lists) horizon ≡ vcd_text top d g (value_under d g) horizon
dump-waves top d g horizon lists are = dump_text-waves top d.names g.timescale lists (value_under d g) horizon are.waves

pub dump-means : (top : List ℕ) (d : Design) (r : Reading) (g : Given) (until : ℕ) → Means d r g
    → vcd_text top d g (value_under d g) until ≡ dump_text top d.names r.timescale (circuit_value d (signal r)) until
dump-means top d r g until m =
    let same : given_by g ≡ (λ (time net : ℕ). signal r net time) = fun_ext (λ time. fun_ext (λ net. m.values net time)) in
    ap (λ (scale : Timescale). dump_text top d.names scale (value_under d g) until) m.timescale
    ∙ ap (λ (given : ℕ → ℕ → Logic). dump_text top d.names r.timescale (λ n t. value (source_of d) given n t) until) same

-- what is answered to a stimulus over the circuit of two texts is answered to all three
pub answered : (bench text stimulus : List ℕ) (until : ℕ) (d : Design) (result : Result (Vec ℕ Global) Fault)
    → IsCircuitOf bench text d → IsDumped d stimulus until result → IsAnswer bench text stimulus until result
unfolding IsAnswer
answered bench text stimulus until d (Ok dump) is (r, read, same) = (d, is, r, read, same)
answered bench text stimulus until d (Err (faults.Stimulus f)) is read = (d, is, read)
answered bench text stimulus until d (Err (faults.Run f)) is (r, read, run) = (d, is, r, read, run)
answered bench text stimulus until d (Err faults.Memory) is h = tt
answered bench text stimulus until d (Err (faults.Bench f)) is h = absurd h
answered bench text stimulus until d (Err (faults.Settings f)) is h = absurd h
answered bench text stimulus until d (Err (faults.Only f)) is h = absurd h
answered bench text stimulus until d (Err (faults.Schedule f)) is h = absurd h
answered bench text stimulus until d (Err (faults.Event number cause)) is h = absurd h
answered bench text stimulus until d (Err (faults.Unfinished time)) is h = absurd h
