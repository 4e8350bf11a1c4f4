-- What texts are answered where some nets alone are told.
use Rattle.std.specs.Prelude.{◌≡◌, ℕ, Bool, List, Option, Some, None, Result, Ok, Err, Vec, codes}
use Rattle.std.specs.declared.alloc.Global.{Global}
use Rattle.gate_netlist.specs.Circuit.{Design, nets_of}
use Rattle.gate_vcd.specs.Stimulus.{Reading, reading_of, signal}
use Rattle.only_nets.specs.Marks.{marks}
use Rattle.only_nets.specs.Names.{marks_named}
use Rattle.only_nets.specs.declared.fault.OnlyFault.{OnlyFault}
use Rattle.vcd_only.specs.Told.{told_text}
use Rattle.warp_core.specs.declared.event.Event.{Event}
use Rattle.warp_core.specs.Schedule.{schedule_of}
use Rattle.warp_text.specs.Answer.{IsCircuitOf, IsNoCircuit, IsRunFault, circuit_value}
use Rattle.warp_text.specs.Replay.{PlaysOn}
use Rattle.warp_text.specs.declared.fault.Fault.{Fault}
use Rattle.warp_text.specs.declared.fault.Fault.TheVariants as faults

-- the nets that are told: those that a text names, else the outputs
abbrev pub told_of : Design → Option (List ℕ) → Result (List Bool) OnlyFault
told_of d None = Ok (marks (nets_of d) d.outputs)
told_of d (Some names) = marks_named d names

-- the one text of a circuit's values under the signals of a stimulus, in which these nets are told
abbrev pub told_dump : Design → List Bool → Reading → ℕ → List ℕ
told_dump d told r until = told_text told (codes "top") d.names r.timescale (circuit_value d (signal r)) until

-- something is so of the circuit that two texts mean, and of the nets that are told
abbrev pub OfTold : (bench settings : List ℕ) → Option (List ℕ) → (Design → List Bool → Type 0) → Type 0
OfTold bench text only P = (d : Design) × IsCircuitOf bench text d × (told : List Bool) × (told_of d only ≡ Ok told) × P d told

-- The answer is that of a whole dump (`IsAnswer`), but that of the dump only the lines of the nets stand that are told. The
-- text that names them is judged behind the settings.
unfoldable pub IsToldAnswer : (bench settings : List ℕ) (only : Option (List ℕ)) (stimulus : List ℕ) (until : ℕ) → Result (Vec ℕ Global) Fault → Type 0
IsToldAnswer bench text only stimulus until (Ok dump) =
    OfTold bench text only (λ d told. (r : Reading) × (reading_of stimulus d ≡ Ok r) × (dump.items ≡ told_dump d told r until))
IsToldAnswer bench text only stimulus until (Err (faults.Only f)) = (d : Design) × IsCircuitOf bench text d × (told_of d only ≡ Err f)
IsToldAnswer bench text only stimulus until (Err (faults.Stimulus f)) = OfTold bench text only (λ d told. reading_of stimulus d ≡ Err f)
IsToldAnswer bench text only stimulus until (Err (faults.Run f)) =
    OfTold bench text only (λ d told. (r : Reading) × (reading_of stimulus d ≡ Ok r) × IsRunFault f)
IsToldAnswer bench text only stimulus until (Err fault) = IsNoCircuit bench text fault

-- something is so of the stimulus and of the events of a schedule too
abbrev pub OfToldTexts : (bench settings : List ℕ) → Option (List ℕ) → (stimulus schedule : List ℕ) → (Design → List Bool → Reading → List Event → Type 0) → Type 0
OfToldTexts bench text only stimulus schedule P =
    OfTold bench text only (λ d told. (r : Reading) × (reading_of stimulus d ≡ Ok r) × (events : List Event) × (schedule_of schedule ≡ Ok events) × P d told r events)

-- the same of a replay (`IsReplay`)
unfoldable pub IsToldReplay : (bench settings : List ℕ) (only : Option (List ℕ)) (stimulus schedule : List ℕ) → Option ℕ → ℕ → Result (Vec ℕ Global) Fault → Type 0
IsToldReplay bench text only stimulus schedule blocks until (Ok dump) =
    OfToldTexts bench text only stimulus schedule (λ d told r events. PlaysOn {X = Vec ℕ Global} d blocks r until events (Ok dump) × (dump.items ≡ told_dump d told r until))
IsToldReplay bench text only stimulus schedule blocks until (Err (faults.Event number cause)) =
    OfToldTexts bench text only stimulus schedule (λ d told r events. PlaysOn {X = Vec ℕ Global} d blocks r until events (Err (faults.Event number cause)))
IsToldReplay bench text only stimulus schedule blocks until (Err (faults.Unfinished time)) =
    OfToldTexts bench text only stimulus schedule (λ d told r events. PlaysOn {X = Vec ℕ Global} d blocks r until events (Err (faults.Unfinished time)))
IsToldReplay bench text only stimulus schedule blocks until (Err (faults.Schedule f)) =
    OfTold bench text only (λ d told. (r : Reading) × (reading_of stimulus d ≡ Ok r) × (schedule_of schedule ≡ Err f))
IsToldReplay bench text only stimulus schedule blocks until (Err (faults.Stimulus f)) = OfTold bench text only (λ d told. reading_of stimulus d ≡ Err f)
IsToldReplay bench text only stimulus schedule blocks until (Err (faults.Only f)) = (d : Design) × IsCircuitOf bench text d × (told_of d only ≡ Err f)
IsToldReplay bench text only stimulus schedule blocks until (Err fault) = IsNoCircuit bench text fault
