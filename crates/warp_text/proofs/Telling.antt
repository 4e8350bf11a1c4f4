-- The dump of the nets that are told is that of the circuit's values, and that under the signals that the stimulus's text means.
use Rattle.std.proofs.Common.{◌≡◌, ℕ, Bool, List, Option, Result, Ok, Err, Vec, ap, ◌∙◌}
use Rattle.std.specs.Prelude.{codes}
use mathlib.Core.Path.{fun_ext}
use Rattle.std.specs.declared.alloc.Global.{Global}
use Rattle.gate_values.specs.declared.logic.Logic.{Logic}
use Rattle.gate_values.specs.Behaviour.{value}
use Rattle.gate_netlist.specs.Circuit.{Design, source_of}
use Rattle.gate_stimulus.specs.declared.timescale.Timescale.{Timescale}
use Rattle.gate_stimulus.specs.Given.{Given}
use Rattle.gate_vcd.specs.Stimulus.{Reading, Means, signal}
use Rattle.vcd_only.specs.Told.{told_text}
use Rattle.warp_core.specs.Values.{given_by, value_under}
use Rattle.warp_text.specs.Answer.{IsCircuitOf}
use Rattle.warp_text.specs.Only.{told_of, told_dump, IsToldAnswer, IsToldReplay}
use Rattle.warp_text.specs.Inner.Only.{AreTold, IsToldDumped, IsToldReplayed}
use Rattle.warp_text.specs.declared.fault.Fault.{Fault}
use Rattle.warp_text.specs.declared.fault.Fault.TheVariants as faults

pub told-means : (told : List Bool) (d : Design) (r : Reading) (g : Given) (until : ℕ) → Means d r g → told_text told (codes "top") d.names g.timescale (value_under d g) until ≡ told_dump d told r until
told-means told d r g until m =
    let same : given_by g ≡ (λ (time net : ℕ). signal r net time) = fun_ext (λ time. fun_ext (λ net. m.values net time)) in
    ap (λ (scale : Timescale). told_text told (codes "top") d.names scale (value_under d g) until) m.timescale
    ∙ ap (λ (given : ℕ → ℕ → Logic). told_text told (codes "top") d.names r.timescale (λ n t. value (source_of d) given n t) until) same

-- what is answered to a stimulus over the circuit of two texts is answered to all of them
pub told_answered : (bench text : List ℕ) (only : Option (List ℕ)) (stimulus : List ℕ) (until : ℕ) (d : Design) (told : List Bool) (result : Result (Vec ℕ Global) Fault)
    → IsCircuitOf bench text d → told_of d only ≡ Ok told → IsToldDumped d told stimulus until result → IsToldAnswer bench text only stimulus until result
unfolding IsToldAnswer
told_answered bench text only stimulus until d told (Ok dump) is are (r, read, same) = (d, is, told, are, (r, read, same))
told_answered bench text only stimulus until d told (Err (faults.Stimulus f)) is are read = (d, is, told, are, read)
told_answered bench text only stimulus until d told (Err (faults.Run f)) is are (r, read, run) = (d, is, told, are, (r, read, run))
told_answered bench text only stimulus until d told (Err faults.Memory) is are h = tt
told_answered bench text only stimulus until d told (Err (faults.Bench f)) is are h = absurd h
told_answered bench text only stimulus until d told (Err (faults.Settings f)) is are h = absurd h
told_answered bench text only stimulus until d told (Err (faults.Only f)) is are h = absurd h
told_answered bench text only stimulus until d told (Err (faults.Schedule f)) is are h = absurd h
told_answered bench text only stimulus until d told (Err (faults.Event number cause)) is are h = absurd h
told_answered bench text only stimulus until d told (Err (faults.Unfinished time)) is are h = absurd h

-- where no nets are told
pub untold_answered : (bench text : List ℕ) (only : Option (List ℕ)) (stimulus : List ℕ) (until : ℕ) (d : Design) (fault : Fault) → IsCircuitOf bench text d → AreTold d only (Err fault) → IsToldAnswer bench text only stimulus until (Err fault)
unfolding IsToldAnswer
untold_answered bench text only stimulus until d (faults.Only f) is h = (d, is, h)
untold_answered bench text only stimulus until d faults.Memory is h = tt
untold_answered bench text only stimulus until d (faults.Stimulus f) is h = absurd h
untold_answered bench text only stimulus until d (faults.Run f) is h = absurd h
untold_answered bench text only stimulus until d (faults.Bench f) is h = absurd h
untold_answered bench text only stimulus until d (faults.Settings f) is h = absurd h
untold_answered bench text only stimulus until d (faults.Schedule f) is h = absurd h
untold_answered bench text only stimulus until d (faults.Event number cause) is h = absurd h
untold_answered bench text only stimulus until d (faults.Unfinished time) is h = absurd h

pub told_replayed : (bench text : List ℕ) (only : Option (List ℕ)) (stimulus schedule : List ℕ) (blocks : Option ℕ) (until : ℕ) (d : Design) (told : List Bool) (result : Result (Vec ℕ Global) Fault)
    → IsCircuitOf bench text d → told_of d only ≡ Ok told → IsToldReplayed d told stimulus schedule blocks until result → IsToldReplay bench text only stimulus schedule blocks until result
unfolding IsToldReplay
told_replayed bench text only stimulus schedule blocks until d told (Ok dump) is are (r, read, events, listed, rest) = (d, is, told, are, (r, read, events, listed, rest))
told_replayed bench text only stimulus schedule blocks until d told (Err (faults.Event number cause)) is are (r, read, events, listed, rest) = (d, is, told, are, (r, read, events, listed, rest))
told_replayed bench text only stimulus schedule blocks until d told (Err (faults.Unfinished time)) is are (r, read, events, listed, rest) = (d, is, told, are, (r, read, events, listed, rest))
told_replayed bench text only stimulus schedule blocks until d told (Err (faults.Schedule f)) is are (r, read, bad) = (d, is, told, are, (r, read, bad))
told_replayed bench text only stimulus schedule blocks until d told (Err (faults.Stimulus f)) is are read = (d, is, told, are, read)
told_replayed bench text only stimulus schedule blocks until d told (Err faults.Memory) is are h = tt
told_replayed bench text only stimulus schedule blocks until d told (Err (faults.Bench f)) is are h = absurd h
told_replayed bench text only stimulus schedule blocks until d told (Err (faults.Settings f)) is are h = absurd h
told_replayed bench text only stimulus schedule blocks until d told (Err (faults.Only f)) is are h = absurd h
told_replayed bench text only stimulus schedule blocks until d told (Err (faults.Run f)) is are h = absurd h

pub untold_replayed : (bench text : List ℕ) (only : Option (List ℕ)) (stimulus schedule : List ℕ) (blocks : Option ℕ) (until : ℕ) (d : Design) (fault : Fault) → IsCircuitOf bench text d → AreTold d only (Err fault) → IsToldReplay bench text only stimulus schedule blocks until (Err fault)
unfolding IsToldReplay
untold_replayed bench text only stimulus schedule blocks until d (faults.Only f) is h = (d, is, h)
untold_replayed bench text only stimulus schedule blocks until d faults.Memory is h = tt
untold_replayed bench text only stimulus schedule blocks until d (faults.Stimulus f) is h = absurd h
untold_replayed bench text only stimulus schedule blocks until d (faults.Run f) is h = absurd h
untold_replayed bench text only stimulus schedule blocks until d (faults.Bench f) is h = absurd h
untold_replayed bench text only stimulus schedule blocks until d (faults.Settings f) is h = absurd h
untold_replayed bench text only stimulus schedule blocks until d (faults.Schedule f) is h = absurd h
untold_replayed bench text only stimulus schedule blocks until d (faults.Event number cause) is h = absurd h
untold_replayed bench text only stimulus schedule blocks until d (faults.Unfinished time) is h = absurd h
